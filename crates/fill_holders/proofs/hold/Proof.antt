-- `fill_holders::hold` meets its contract. The loop's invariant: the kinds taken out of the word hold the rule.
-- The measure is what is left of the word. Assumes nothing.
use borrow.Author.Rules.{rules}
use native.Mathlib.Omega.{arith}
use Rattle.fill_sets.proofs.Words.{rest-less}
use Rattle.fill_holders.proofs.Holding.{HeldTo, held_start, held-step, held-done}
use Rattle.fill_holders.proofs.hold.Statement.{statement}
use Rattle.fill_holders.proofs.hold.Tie as tie

abbrev invariant-loop : tie.invariant-loop-rest
invariant-loop r kinds holders₀ rest₀ holders rest = HeldTo r kinds holders₀ rest holders

abbrev decreases-loop : tie.decreases-loop-rest
decreases-loop r kinds holders₀ rest₀ holders rest = rest

loop-holds : tie.Need-loop-rest-init invariant-loop decreases-loop
loop-holds c = search held_start

lowest-requires : tie.Need-lowest-k-requires invariant-loop decreases-loop
lowest-requires c κs = omega arith

set-at-requires : tie.Need-set_at-requires invariant-loop decreases-loop
set-at-requires c κs = omega arith

with-requires : tie.Need-with-requires invariant-loop decreases-loop
with-requires c κs = omega arith

put-set-requires : tie.Need-put_set-requires invariant-loop decreases-loop
put-set-requires c κs = (omega arith, search rules)

without-requires : tie.Need-without-rest-requires invariant-loop decreases-loop
without-requires c κs = search rules

loop-less : tie.Need-loop-rest-smaller invariant-loop decreases-loop
loop-less c = search rest-less

loop-again : tie.Need-loop-rest-preserved invariant-loop decreases-loop
loop-again c = search held-step

returns : tie.Need-returns invariant-loop decreases-loop
returns c = search held-done

pub hold_spec : {M : Type 1} → statement M
hold_spec = tie.close (tie.spec invariant-loop decreases-loop loop-holds lowest-requires set-at-requires with-requires put-set-requires
    without-requires loop-less loop-again returns)
