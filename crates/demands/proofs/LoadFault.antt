-- Loading: the number of a fault, and the offset that is given for it. Assumes nothing.
use Prim.Native.Nat.{ℕ}
use native.Mathlib.Omega.{arith}
use mathlib.Core.Bool.{Bool, true, false, cond}
use mathlib.Core.List.{List}
use mathlib.Core.Path.{◌≡◌, subst}
use lib.Dec.{eqb}
use lib.ListN.{get_or}
use Rattle.grammar.specs.declared.Grammar.{Grammar}
use Rattle.results.specs.Load.{Step, stop, next, done, operand_checks, command_checks, carried_out, step}
use Rattle.results.proofs.Decide.{decide-cases}
use Rattle.demands.specs.LoadOrder.{stopped}
use Rattle.demands.specs.LoadDemand.{FaultAt}

module _ (bytes : List ℕ) (at : ℕ) where
  -- a step that stops is a fault of this offset
  abbrev Stops : Step → Type 0
  Stops (stop f) = FaultAt bytes at f.number f.offset
  Stops (next at' g) = Unit {0}
  Stops (done g) = Unit {0}

  -- omega proves at most 64 statements at once: the last three checks are proved together, and the others one by one
  step-stops : (g : Grammar) → Stops (step bytes at g)
  unfolding step command_checks operand_checks carried_out
  step-stops g =
      decide-cases stop _ Stops _
      (omega arith, (omega arith, (omega arith, (omega arith, (omega arith, (omega arith, (omega arith, (omega arith, omega arith))))))))
      (λ p. either (eqb (get_or bytes at 0) 0x50) _ _)
    where
      either : (b : Bool) (m : ℕ) (h : Grammar) → Stops (cond b (done g) (next m h))
      either true m h = tt
      either false m h = tt

  pub step-fault : (g : Grammar) (n o : ℕ) → step bytes at g ≡ stopped n o → FaultAt bytes at n o
  step-fault g n o e = subst Stops e (step-stops g)
