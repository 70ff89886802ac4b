-- `print_step::step::following` meets its contract: the next derivation is in the buffer, or the last line is due. Assumes nothing.
use Rattle.std.proofs.Common.{arith, refl}
use Rattle.print_step.proofs.Lines.{followed-last, followed-more, followed-next}
use Rattle.print_step.proofs.step.following.Goals as goal

pub returns-in_default : goal.returns-in_default
returns-in_default c = followed-last _ _ _ _ _ _ _ _ _ _ _ c.in_default.ensures.next (omega arith) refl

pub returns-then-i-eq-MOST : goal.returns-then-i-eq-MOST
returns-then-i-eq-MOST c =
    followed-more _ _ _ _ _ _ _ _ _ _ _ c.in-Some.ensures.next (omega arith) (omega (arith, c.in-Some.ensures.has_nodes))
    c.if-i-eq-MOST.true

pub returns : goal.returns
returns c =
    followed-next _ _ _ _ _ _ _ _ _ _ _ c.in-Some.ensures.next (omega arith) (omega (arith, c.in-Some.ensures.has_nodes))
    c.if-i-eq-MOST.false (omega arith) (omega arith)
