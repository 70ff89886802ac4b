-- Whether a rule can begin a cut, by the tests in the code, and what follows if it cannot. Assumes nothing.
use Prim.Native.Nat.{ℕ, ◌+◌, ◌≤◌, ◌<◌}
use mathlib.Core.Bool.{Bool, true, false}
use mathlib.Core.Logic.{dite}
use mathlib.Core.Path.{◌≡◌, refl, subst}
use native.Mathlib.Decide.{dec_lt}
use native.Mathlib.Omega.{arith}
use Rattle.laws.proofs.Bools.{true-false, bool_false}
use Rattle.sets.specs.Set.{has, insert}
use Rattle.sets.specs.Pairs.{Meeting}
use Rattle.fill_reach.specs.Reach.{CanBegin}

module _ (i n reach live : ℕ) where
  pub can-meet : (x : ℕ) (f : Bool) → i + 1 < n → x ≡ insert (i + 1) reach → Meeting 64 x live f → CanBegin i n reach live f
  can-meet x f l e meeting = record { before = λ _. subst (λ (y : ℕ). Meeting 64 y live f) e meeting; at_end = λ h. absurd (omega arith) }

  pub can-always : n ≤ i + 1 → CanBegin i n reach live true
  can-always h = record { before = λ l. absurd (omega arith); at_end = λ _. refl }

module _ {i n reach live : ℕ} {f : Bool} (can : CanBegin i n reach live f) (not : f ≡ false) where
  pub cannot-inside : i + 1 < n
  cannot-inside = dite (dec_lt (i + 1) n) (λ l. l) (λ l. absurd (true-false (can.at_end (omega arith)) not))

  pub cannot-meet : (c : ℕ) → has c (insert (i + 1) reach) ≡ true → has c live ≡ false
  cannot-meet c h = bool_false (has c live) (λ e. true-false ((can.before cannot-inside).all c h e) not)
