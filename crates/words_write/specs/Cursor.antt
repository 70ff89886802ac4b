-- What the writer finds at its cursor, and what it writes. Node i of e is the two numbers at 2 * i (how many bytes it covers) and 2 * i + 1
-- (its rule). Assumes nothing.
use Rattle.std.specs.Prelude.{ℕ, zero, suc, ◌+◌, ◌*◌, ◌≤◌, ◌<◌, List, [], ◌∷◌, ◌++◌, ◌≡◌, length, get_or, drop}
use Rattle.sizes.specs.Sizes.{max_rules, max_input, output_size}
use Rattle.cfg.specs.Grammar.{Cfg, Symbol, nonterminal, terminal}
use Rattle.cfg.specs.Tree.{Forest, end, node, yield, nodes, code, Fits}
use Rattle.packed.specs.Packed.{cfg_in, places_in}
use Rattle.theory_words.specs.Words.{comma, forest_text}
use Rattle.print_number.specs.Put.{Put}
use Rattle.words_text.specs.Names.{names_size, text_in}
use Rattle.words_write.specs.declared.Cursor.{Cursor}
use Rattle.words_write.specs.declared.Place.{Place}
use Rattle.words_write.specs.declared.Place.TheVariants.{Leaf, Node}

-- what the symbol at a place of a rule lets the writer find there
abbrev pub look_of : Symbol → Place
look_of (nonterminal k) = Node
look_of (terminal t) = Leaf

-- a comma before each place but the first
unfoldable pub comma_before : ℕ → List ℕ
comma_before zero = []
comma_before (suc q) = comma ∷ []

-- from one cursor to the next: the bytes x are written, n nodes and m bytes are passed
pub record CursorMoved (x : List ℕ) (n m : ℕ) (here next : Cursor) (out₀ out : List ℕ) : Type 0 where
  pub put : Put x here.at next.at out₀ out
  pub nodes : next.node ≡ here.node + n
  pub bytes : next.byte ≡ here.byte + m

-- the forest t fits the places; from a node on e has its code, and from a byte on w has its bytes
pub record ForestAt (G : Cfg) (w e : List ℕ) (places : List Symbol) (at from : ℕ) (t : Forest) : Type 0 where
  pub fit : Fits G places t
  pub covers : yield t ++ drop (from + length (yield t)) w ≡ drop from w
  pub known : from + length (yield t) ≤ length w
  pub coded : code t ++ drop (2 * (at + nodes t)) e ≡ drop (2 * at) e
  pub inside : 2 * (at + nodes t) ≤ length e

-- the rule of node i
abbrev pub rule_at : List ℕ → ℕ → ℕ
rule_at e i = get_or e (2 * i + 1) 0

-- the forest t is what is below a node, which covers bytes from `from` on
pub record NodeAt (p w e : List ℕ) (at from : ℕ) (t : Forest) : Type 0 where
  pub low : rule_at e at < max_rules
  pub below : ForestAt (cfg_in 0 p) w e (places_in p (rule_at e at)) (at + 1) from t

-- the text of a node of rule r with the forest t below it
abbrev pub node_text : List ℕ → ℕ → Forest → List ℕ
node_text names r t = forest_text (text_in names) (node r t end)

-- what `put_node` requires: there is a node at the cursor, with fewer than `left` nodes below it, and its text fits a buffer of this size
pub record Writable (names p w e : List ℕ) (left : ℕ) (here : Cursor) (size : ℕ) : Type 0 where
  pub full : length names ≡ names_size
  pub short : length e ≤ output_size
  pub small : length w ≤ max_input
  pub below : Forest
  pub found : NodeAt p w e here.node here.byte below
  pub few : nodes below < left
  pub room : here.at + length (node_text names (rule_at e here.node) below) ≤ size

-- what `put_node` does: for a node at the cursor it writes its text and passes its nodes and bytes
pub record NodeWritten (names p w e : List ℕ) (here next : Cursor) (out₀ out : List ℕ) : Type 0 where
  pub written : (t : Forest) → NodeAt p w e here.node here.byte t
      → CursorMoved (node_text names (rule_at e here.node) t) (suc (nodes t)) (length (yield t)) here next out₀ out
