-- Membership after an insertion that depends on a test, and two tests in one. Assumes nothing.
use Prim.Native.Nat.{ℕ}
use mathlib.Core.Bool.{Bool, true, false, cond, ◌&&◌}
use mathlib.Core.Logic.{◌≢◌}
use mathlib.Core.Path.{◌≡◌, refl, sym, ◌∙◌}
use Rattle.sets.specs.Set.{has, insert}
use Rattle.sets.proofs.Laws.{has-insert-same, has-insert-other}

module _ (q v : ℕ) where
  pub has-if-same : (f : Bool) → has q v ≡ false → has q (cond f (insert q v) v) ≡ f
  has-if-same true e = has-insert-same q v
  has-if-same false e = e

  pub has-if-other : (f : Bool) (j : ℕ) → j ≢ q → has j (cond f (insert q v) v) ≡ has j v
  has-if-other true j d = has-insert-other j q v d
  has-if-other false j d = refl

-- ---- what the branches of the code give

pub and_then : (a b t u : Bool) → t ≡ a → t ≡ true → u ≡ b → u ≡ (a && b)
and_then a b t u e f g = g ∙ rw (sym e ∙ f)

pub and-stop : (a b t : Bool) → t ≡ a → t ≡ false → false ≡ (a && b)
and-stop a b t e f = rw (sym e ∙ f)

pub if-true : (t : Bool) (q v x : ℕ) → t ≡ true → x ≡ insert q v → x ≡ cond t (insert q v) v
if-true t q v x e f = rw e f

pub if-false : (t : Bool) (q v : ℕ) → t ≡ false → v ≡ cond t (insert q v) v
if-false t q v e = rw e
