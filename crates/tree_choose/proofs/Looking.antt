-- What comes next at a place, by the tests that the code makes. Assumes nothing.
use Prim.Native.Nat.{ℕ, ◌+◌, ◌*◌, ◌-◌, ◌≤◌, ◌<◌}
use mathlib.Core.Bool.{Bool, true, false}
use mathlib.Core.List.{List}
use mathlib.Core.Path.{◌≡◌, sym, ap, ◌∙◌}
use native.Mathlib.Omega.{arith}
use lib.ListN.{get_or}
use Rattle.sizes.specs.Sizes.{side}
use Rattle.packed.specs.Packed.{place_count, is_nonterminal_in, value_in}
use Rattle.tree_choose.specs.Chosen.{EndChosen}
use Rattle.tree_choose.specs.Looked.{Looked, at_end, at_byte, no_byte, at_node, no_node}
use Rattle.tree_choose.specs.declared.look.Step.TheVariants.{No, End, Byte, Node}

module _ {p : List ℕ} {r q : ℕ} {tables full rows : List ℕ} {i a j budget m : ℕ} (e : m ≡ place_count p r) where
  pub look-end : m ≤ q → Looked p r q tables full rows i a j budget End
  look-end h = at_end (omega arith)

  module _ {t : Bool} (h : q < m) (f : t ≡ is_nonterminal_in p r q) where
    pub look-byte : t ≡ false → a < j → Looked p r q tables full rows i a j budget Byte
    look-byte n l = at_byte (omega arith) (sym f ∙ n) l

    pub look-short : t ≡ false → j ≤ a → Looked p r q tables full rows i a j budget No
    look-short n l = no_byte (omega arith) (sym f ∙ n) l

    module _ {k b : ℕ} (y : t ≡ true) (g : k ≡ value_in p r q) (C : EndChosen tables full k i a a j rows (side * (q + 1)) budget b) where
      -- n is the cost of the places after the node
      pub look-node : {n : ℕ} → b ≤ j → n ≡ get_or rows (side * (q + 1) + b) 0
          → Looked p r q tables full rows i a j budget (Node k b (budget - n))
      look-node l d = at_node (omega arith) (sym f ∙ y) g C l (ap (λ (x : ℕ). budget - x) d)

      pub look_none : j < b → Looked p r q tables full rows i a j budget No
      look_none l = no_node (omega arith) (sym f ∙ y) g C l
