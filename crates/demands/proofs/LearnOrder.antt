-- Learning a rule: at each command the first refusal that applies is given, and none without a cause. Assumes nothing.
use Prim.Native.Nat.{ℕ, ◌<◌}
use mathlib.Core.List.{List}
use mathlib.Core.Path.{◌≡◌, sym, subst}
use lib.Dec.{eqb}
use lib.ListN.{length, get_or}
use Rattle.grammar.specs.declared.Grammar.{Grammar}
use Rattle.results.specs.Load.{operand_checks, carried_out, stop}
use Rattle.results.specs.Learn.{learn_checks, learn_step}
use Rattle.results.proofs.Learning.Run.{learn-within}
use Rattle.demands.specs.LearnOrder.{LearnCommandOrder}
use Rattle.demands.proofs.LoadOrder.{goes_on}
use Rattle.demands.proofs.Decided.{decided, all-failing}

pub learn-step-order : (bytes : List ℕ) (at : ℕ) (g : Grammar) → at < length bytes
    → LearnCommandOrder bytes at (get_or bytes at 0) g (learn_step bytes at g)
unfolding learn_checks operand_checks carried_out
learn-step-order bytes at g h =
    let c = get_or bytes at 0 in
    subst (LearnCommandOrder bytes at c g) (sym (learn-within bytes at g h))
    (decided stop _ (λ s. s) _ (goes_on (eqb c 0x50) _ g _) _ _ (all-failing (learn_checks bytes at c g)))
