-- Learning a rule: the number of a fault, and the offset that is given for it. Assumes nothing.
use Prim.Native.Nat.{ℕ, ◌+◌, ◌<◌}
use native.Mathlib.Omega.{arith}
use mathlib.Core.Bool.{Bool, true, false, cond, ◌&&◌}
use mathlib.Core.List.{List}
use mathlib.Core.Path.{◌≡◌, sym, ap, ◌∙◌, subst}
use lib.Dec.{eqb, ltb}
use lib.ListN.{length, get_or}
use borrow.Author.Tests.{eqb-true}
use Rattle.laws.proofs.Bools.{true-false, by-test, and_parts}
use Rattle.grammar.specs.declared.Grammar.{Grammar}
use Rattle.results.specs.Answer.{decide}
use Rattle.results.specs.Load.{unknown, Step, stop, next, done, operand_checks, carried_out}
use Rattle.results.specs.Learn.{misplaced, learn_checks, learn_step}
use Rattle.results.proofs.Decide.{decide-cases}
use Rattle.results.proofs.Learning.Run.{learn-within}
use Rattle.results.proofs.Learning.Commands.{end-misplaced}
use Rattle.demands.specs.LoadOrder.{stopped}
use Rattle.demands.specs.LearnOrder.{LearnFaultAt}

module _ (bytes : List ℕ) (at : ℕ) (g : Grammar) where
  -- a step that stops is a fault of this offset
  abbrev Stops : Step → Type 0
  Stops (stop f) = LearnFaultAt bytes at f.number f.offset
  Stops (next at' h) = Unit {0}
  Stops (done h) = Unit {0}

  either : (b : Bool) (m : ℕ) (h : Grammar) → Stops (cond b (done g) (next m h))
  either true m h = tt
  either false m h = tt

  -- 7 is not given: 50 is misplaced, so its cause does not come up
  no_seven : (c : ℕ) → misplaced c at ≡ false → (eqb c 0x50 && ltb (at + 1) (length bytes)) ≡ true → ⊥
  no_seven c m e =
      let f = eqb-true c 0x50 (and_parts (eqb c 0x50) _ e).0 in
      true-false (ap (λ (x : ℕ). misplaced x at) f ∙ end-misplaced at) m

  placed-stops : misplaced (get_or bytes at 0) at ≡ false
      → Stops (decide (learn_checks bytes at (get_or bytes at 0) g) stop (λ _. carried_out bytes at (get_or bytes at 0) g))
  unfolding learn_checks operand_checks carried_out
  placed-stops m =
      decide-cases stop _ Stops _ (
        omega arith,
        (
          omega arith,
          (
            omega arith,
            (
              omega arith,
              (
                omega arith,
                (
                  omega arith,
                  (
                    omega arith,
                    (
                      omega arith,
                      (
                        omega arith,
                        (omega arith, (λ e. absurd (no_seven (get_or bytes at 0) m e), tt)),
                      ),
                    ),
                  ),
                ),
              ),
            ),
          ),
        ),
      )
      (λ p. either (eqb (get_or bytes at 0) 0x50) _ _)

  misplaced-stops : misplaced (get_or bytes at 0) at ≡ true
      → Stops (decide (learn_checks bytes at (get_or bytes at 0) g) stop (λ _. carried_out bytes at (get_or bytes at 0) g))
  unfolding learn_checks decide
  misplaced-stops m = by-test (unknown (get_or bytes at 0)) (λ u. rw u (omega arith)) (λ u. rw (u, m) (omega arith))

  pub learn-fault : at < length bytes → (n o : ℕ) → learn_step bytes at g ≡ stopped n o → LearnFaultAt bytes at n o
  learn-fault h n o e = subst Stops (sym (learn-within bytes at g h) ∙ e)
      (by-test (misplaced (get_or bytes at 0) at) misplaced-stops placed-stops)
