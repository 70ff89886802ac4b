-- `is_derivation`: too long and odd rows are no derivations, and the walk decides the others. Assumes nothing.
use Rattle.std.proofs.Common.{rules, arith}
use Rattle.check_walk.proofs.Whole.{long-unlisted, odd-unlisted, whole-listed}
use Rattle.check_walk.proofs.derivation.is_derivation.Goals as goal

pub returns-then-m-gt-OUTPUT : goal.returns-then-m-gt-OUTPUT
returns-then-m-gt-OUTPUT c = long-unlisted _ _ _ (omega arith)

pub returns-then-m-eq1 : goal.returns-then-m-eq1
returns-then-m-eq1 c = search odd-unlisted

pub returns : goal.returns
returns c = search (rules, whole-listed)
