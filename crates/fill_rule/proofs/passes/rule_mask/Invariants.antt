-- The loop's invariant: the set is right from place q on, and has no place below q. Assumes nothing.
use Rattle.fill_rule.proofs.Mask.{MaskFrom}
use Rattle.fill_rule.proofs.passes.rule_mask.Given as goal

abbrev pub invariant-loop-q : goal.invariant-loop-q
invariant-loop-q l = MaskFrom l.p l.r l.ended l.empty l.own l.inner l.last l.q l.v
