-- What comes next at a place of a rule, by the costs in the tables. Assumes nothing.
use Rattle.std.specs.Prelude.{ℕ, ◌+◌, ◌*◌, ◌-◌, ◌≤◌, ◌<◌, true, false, List, ◌≡◌, get_or}
use Rattle.sizes.specs.Sizes.{side}
use Rattle.packed.specs.Packed.{place_count, is_nonterminal_in, value_in}
use Rattle.tree_choose.specs.Chosen.{EndChosen}
use Rattle.tree_choose.specs.declared.look.Step.{Step}
use Rattle.tree_choose.specs.declared.look.Step.TheVariants.{No, End, Byte, Node}

-- what comes next at place q of rule r from a on: the end of the row, a byte, or a node up to the first end within the budget, with the
-- share of the budget that the places after it leave; nothing if there is no byte or no such end
pub data Looked (p : List ℕ) (r q : ℕ) (tables full rows : List ℕ) (i a j budget : ℕ) : Step → Type 0 where
  at_end : place_count p r ≤ q → Looked p r q tables full rows i a j budget End
  at_byte : q < place_count p r → is_nonterminal_in p r q ≡ false → a < j → Looked p r q tables full rows i a j budget Byte
  no_byte : q < place_count p r → is_nonterminal_in p r q ≡ false → j ≤ a → Looked p r q tables full rows i a j budget No
  at_node : {k b share : ℕ} → q < place_count p r → is_nonterminal_in p r q ≡ true → k ≡ value_in p r q
      → EndChosen tables full k i a a j rows (side * (q + 1)) budget b → b ≤ j → share ≡ budget - get_or rows (side * (q + 1) + b) 0
      → Looked p r q tables full rows i a j budget (Node k b share)
  no_node : {k b : ℕ} → q < place_count p r → is_nonterminal_in p r q ≡ true → k ≡ value_in p r q
      → EndChosen tables full k i a a j rows (side * (q + 1)) budget b → j < b → Looked p r q tables full rows i a j budget No
