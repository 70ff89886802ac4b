-- Forests stored by their code in a buffer of numbers, and how many nodes a tree there has. Assumes nothing.
use Rattle.std.specs.Prelude.{ℕ, ◌+◌, ◌*◌, ◌≤◌, ◌<◌, List, [], ◌∷◌, ◌≡◌, length, get_or}
use Rattle.sizes.specs.Sizes.{max_nodes}
use Rattle.cfg.specs.Grammar.{Symbol, nonterminal, terminal}
use Rattle.cfg.specs.Tree.{Forest, nodes, code, Fits}
use Rattle.packed.specs.Packed.{places_in, cfg_in}

-- the number of children that a node has for one symbol of its rule: one for a nonterminal, none for a terminal
unfoldable pub child_of : Symbol → ℕ
child_of (nonterminal k) = 1
child_of (terminal t) = 0

-- the number of nonterminals among the symbols
unfoldable pub children_of : List Symbol → ℕ
children_of [] = 0
children_of (s ∷ places) = child_of s + children_of places

-- the number of nonterminals among the places of rule r
abbrev pub children_in : List ℕ → ℕ → ℕ
children_in p r = children_of (places_in p r)

-- the numbers of the buffer from node `at` on begin with e
abbrev pub StandsAt : List ℕ → ℕ → List ℕ → Type 0
StandsAt buf at e = (y : ℕ) → y < length e → get_or buf (2 * at + y) 0 ≡ get_or e y 0

-- n nodes from node `at` on are within a buffer for 512, and any tree of the grammar that is stored at `at` within it has n nodes
pub record Sized (p buf : List ℕ) (at n : ℕ) : Type 0 where
  pub small : at + n ≤ max_nodes
  pub exact : (k : ℕ) (x : Forest) → Fits (cfg_in 0 p) (nonterminal k ∷ []) x → StandsAt buf at (code x) → at + nodes x ≤ max_nodes
      → n ≡ nodes x
