-- `next_made::offered::next_made` meets its contract: the derivation after the offered one is written to the buffer and, if there is one,
-- copied to the output. Assumes nothing.
use Rattle.std.proofs.Common.{arith, ap, unwrap_or}
use Rattle.next_made.proofs.Handing.{copied-front, made_none, made-next}
use Rattle.next_made.proofs.offered.next_made.Goals as goal

pub returns-in_default : goal.returns-in_default
returns-in_default c =
    made_none _ _ _ _ _ _ _ _ _ _ _ _ (copied-front _ c.copy_from_slice.ensures.after) c.advance_root.ensures.next
    (ap (λ r. unwrap_or r 0) c.in_default.is)

pub returns : goal.returns
returns c =
    made-next _ _ _ _ _ _ _ _ _ _ _ c.in-Some.m (copied-front _ c.copy_from_slice.ensures.after) c.in-Some.ensures.next _
    (omega (arith, c.in-Some.ensures.has_nodes)) (omega (arith, c.in-Some.ensures.next.kept.few)) c.copy_from_slice-2.ensures.after
