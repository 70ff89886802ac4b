-- Loading: at each command the first refusal that applies is given, and none without a cause. Assumes nothing.
use Prim.Native.Nat.{ℕ}
use mathlib.Core.Bool.{Bool, true, false, cond}
use mathlib.Core.List.{List, ◌∷◌}
use mathlib.Core.Path.{◌≡◌}
use lib.Dec.{eqb}
use lib.ListN.{length, get_or}
use Rattle.laws.proofs.Bools.{clash}
use Rattle.grammar.specs.declared.Grammar.{Grammar}
use Rattle.results.specs.Load.{Fault, fault, operand_checks, command_checks, stop, next, done, carried_out, step}
use Rattle.demands.specs.LoadOrder.{ended, CommandOrder}
use Rattle.demands.proofs.Decided.{decided, all-failing}

-- loading does not stop after the checks
pub goes_on : (b : Bool) (at : ℕ) (g h : Grammar) (f : Fault) → cond b (done g) (next at h) ≡ stop f → ⊥
goes_on true at g h f e = clash cc
goes_on false at g h f e = clash cc

pub step-order : (bytes : List ℕ) (at : ℕ) (g : Grammar) → CommandOrder bytes at (get_or bytes at 0) g (step bytes at g)
unfolding step command_checks operand_checks carried_out
step-order bytes at g =
    let c = get_or bytes at 0 in
    decided stop _ (λ s. s) _ (goes_on (eqb c 0x50) _ g _) _ _
    (all-failing (fault (ended bytes at) 1 (length bytes) ∷ command_checks bytes at c g))
