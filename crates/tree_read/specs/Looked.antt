-- What a buffer holds at a place of a rule and at a node, by its numbers. Assumes nothing.
use Rattle.std.specs.Prelude.{ℕ, ◌+◌, ◌*◌, ◌≤◌, ◌<◌, Bool, true, false, List, ◌≡◌, get_or}
use Rattle.sizes.specs.Sizes.{max_rules}
use Rattle.packed.specs.Packed.{place_count, is_nonterminal_in, value_in}
use Rattle.tree_size.specs.Standing.{Sized}
use Rattle.tree_read.specs.declared.look.Step.{Step}
use Rattle.tree_read.specs.declared.look.Step.TheVariants.{No, End, Byte, Final, Node}

-- the places of rule r from `from` on and below m have only terminals
abbrev pub LeavesIn : List ℕ → ℕ → ℕ → ℕ → Type 0
LeavesIn p r from m = (q : ℕ) → from ≤ q → q < m → is_nonterminal_in p r q ≡ false

-- b says whether those places have only terminals
abbrev pub LeavesFound : List ℕ → ℕ → ℕ → ℕ → Bool → Type 0
LeavesFound p r from m b = (b ≡ true → LeavesIn p r from m) × (b ≡ false → LeavesIn p r from m → ⊥)

-- what the buffer holds at node `at` for place q of rule r from a on: the end of the row, a byte, a node of k up to b with only terminals
-- after it, or a node of s nodes in all with others after it; nothing if there is no byte, or if the node exceeds j or the budget
pub data BufferLooked (p : List ℕ) (r q : ℕ) (buf : List ℕ) (at a j budget : ℕ) : Step → Type 0 where
  at_end : place_count p r ≤ q → BufferLooked p r q buf at a j budget End
  at_byte : q < place_count p r → is_nonterminal_in p r q ≡ false → a < j → BufferLooked p r q buf at a j budget Byte
  no_byte : q < place_count p r → is_nonterminal_in p r q ≡ false → j ≤ a → BufferLooked p r q buf at a j budget No
  at_last : {k b : ℕ} → q < place_count p r → LeavesIn p r (q + 1) (place_count p r) → is_nonterminal_in p r q ≡ true → k ≡ value_in p r q
      → b ≡ a + get_or buf (2 * at) 0 → b ≤ j → BufferLooked p r q buf at a j budget (Final k b)
  at_node : {k b s : ℕ} → q < place_count p r → is_nonterminal_in p r q ≡ true → k ≡ value_in p r q → b ≡ a + get_or buf (2 * at) 0
      → (LeavesIn p r (q + 1) (place_count p r) → ⊥) → Sized p buf at s → b ≤ j → s ≤ budget
      → BufferLooked p r q buf at a j budget (Node k b s)
  no_room : q < place_count p r → is_nonterminal_in p r q ≡ true → budget ≡ 0 → BufferLooked p r q buf at a j budget No
  no_end : {b : ℕ} → q < place_count p r → is_nonterminal_in p r q ≡ true → b ≡ a + get_or buf (2 * at) 0 → j < b
      → BufferLooked p r q buf at a j budget No
  no_node : {s : ℕ} → q < place_count p r → is_nonterminal_in p r q ≡ true → Sized p buf at s → budget < s
      → BufferLooked p r q buf at a j budget No

-- r is the rule of node `at`; it is no rule's number if the node has none or the budget is 0
pub record RuleRead (buf : List ℕ) (at budget r : ℕ) : Type 0 where
  pub room : r < max_rules → 0 < budget
  pub here : r < max_rules → r ≡ get_or buf (2 * at + 1) 0
  pub none : max_rules ≤ r → 0 < budget → max_rules ≤ get_or buf (2 * at + 1) 0
