-- `lookup::find` meets its contract: the loop's invariant after each command, and what follows from it where the name begins.
-- Assumes nothing.
use Rattle.lookup.proofs.Walk.{walk_first, never-unknown, walk-fits, size_fits, walk-found, walk-on}
use Rattle.lookup.proofs.find.Goals as goal

pub loop-at-init : goal.loop-at-init
loop-at-init c = search walk_first

pub returns-in_default : goal.returns-in_default
returns-in_default c = never-unknown _ _ _ _ c.loop-at.invariant c.loop-at-test.true c.in_default.ensures

pub returns-then-names_rule : goal.returns-then-names_rule
returns-then-names_rule c =
    walk-found _ _ _ _ c.loop-at.invariant c.loop-at-test.true _ c.in-Ok.ensures _ c.names_rule.ensures c.if-names_rule.true

pub overflow_add-at : goal.overflow_add-at
overflow_add-at c = search (size_fits, c.in-Ok.ensures)

pub overflow_add-at-in-loop-at : goal.overflow_add-at-in-loop-at
overflow_add-at-in-loop-at c = search (walk-fits, c.in-Ok.ensures)

pub loop-at-preserved : goal.loop-at-preserved
loop-at-preserved c =
    walk-on _ _ _ _ c.loop-at.invariant c.loop-at-test.true _ c.in-Ok.ensures _ c.names_rule.ensures c.if-names_rule.false _ _
    c.rules_after-rules.ensures c.operand_count.ensures
