-- Operations that do not learn keep the grammar. Assumes nothing.
use Prim.Native.Nat.{ℕ}
use mathlib.Core.Bool.{Bool, true, false}
use mathlib.Core.List.{List, [], ◌∷◌}
use mathlib.Core.Option.{Option, none, some}
use mathlib.Core.Path.{◌≡◌, refl, ◌∙◌}
use lib.Dec.{eqb, ltb}
use lib.ListN.{length, get_or}
use Rattle.sizes.specs.Sizes.{max_input, max_points}
use Rattle.theory_points.specs.Machine.{Op, take_byte, set_point, return_to, learn, NoLearning, Remaining, Effect}
use Rattle.theory_points.specs.Machine.{returned, moved, remainder, remains_after}

module _ (r : Remaining) where
  -- an operation that comes to this keeps the grammar
  abbrev Kept : Effect → Type 0
  Kept x = (remainder x r).grammar ≡ r.grammar

  -- whichever of two it comes to
  chosen : (b : Bool) (x z : Effect) → Kept x → Kept z → Kept (elim b [ true ↦ x | false ↦ z ])
  chosen true x z p q = p
  chosen false x z p q = q

  take-kept : (m : ℕ) → Kept (moved (take_byte m) r)
  unfolding moved remainder
  take-kept m = chosen (eqb (length r.bytes) max_input) _ _ refl refl

  set-kept : (k : ℕ) → Kept (moved (set_point k) r)
  unfolding moved remainder
  set-kept k = chosen (ltb k max_points) _ _ refl refl

  returned-kept : (o : Option ℕ) → Kept (returned o r)
  unfolding returned remainder
  returned-kept none = refl
  returned-kept (some p) = refl

  return_kept : (k : ℕ) → Kept (moved (return_to k) r)
  unfolding moved
  return_kept k = returned-kept (get_or r.points k none)

pub grammar-kept : (ops : List Op) → NoLearning ops → (r : Remaining) → (remains_after ops r).grammar ≡ r.grammar
unfolding remains_after
grammar-kept [] n r = refl
grammar-kept (take_byte m ∷ ops) n r = grammar-kept ops n (remainder (moved (take_byte m) r) r) ∙ take-kept r m
grammar-kept (set_point k ∷ ops) n r = grammar-kept ops n (remainder (moved (set_point k) r) r) ∙ set-kept r k
grammar-kept (return_to k ∷ ops) n r = grammar-kept ops n (remainder (moved (return_to k) r) r) ∙ return_kept r k
grammar-kept (learn bytes ∷ ops) n r = absurd n
