-- A forest from the bytes that it covers and from its preorder code. Assumes nothing.
use Rattle.std.specs.Prelude.{ℕ, zero, suc, List, [], ◌∷◌, length, get_or, drop}
use Rattle.std.proofs.Math.Option.{Option, none, some}
use Rattle.cfg.specs.Grammar.{Cfg, Rule, rule, Symbol, nonterminal, terminal}
use Rattle.cfg.specs.Tree.{Forest, end, leaf, node, yield, code}

-- the places of a rule; no rule has none
unfoldable pub places_of : Option Rule → List Symbol
places_of none = []
places_of (some ρ) = ρ.places

-- a node of rule r and its siblings, which take the bytes and the numbers after those of the forest below the node
unfoldable pub with_siblings : ℕ → Forest → (List ℕ → List ℕ → Forest) → List ℕ → List ℕ → Forest
with_siblings r below siblings w e = node r below (siblings (drop (length (yield below)) w) (drop (length (code below)) e))

-- the forest for the places, from the front of the bytes and of the numbers; `under` gives the forest below a node of a rule
unfoldable pub row_in : (ℕ → List ℕ → List ℕ → Forest) → List Symbol → List ℕ → List ℕ → Forest
row_in under [] w e = end
row_in under (terminal t ∷ places) w e = leaf (get_or w 0 0) (row_in under places (drop 1 w) e)
row_in under (nonterminal k ∷ places) w e =
    with_siblings (get_or e 1 0) (under (get_or e 1 0) w (drop 2 e)) (row_in under places) w (drop 2 e)

-- the forest below a node of rule r, from the front of the bytes and of the numbers, if it is at most n nodes high
unfoldable pub below_in : Cfg → ℕ → ℕ → List ℕ → List ℕ → Forest
below_in G zero r w e = end
below_in G (suc n) r w e = row_in (below_in G n) (places_of (rule G r)) w e

-- the forest for the places over w with the code e; without such a forest it means nothing
unfoldable pub forest_in : Cfg → List Symbol → List ℕ → List ℕ → Forest
forest_in G places w e = row_in (below_in G (length e)) places w e
