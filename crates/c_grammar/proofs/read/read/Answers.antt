-- The loop reads each rule in turn, and the grammar has all of them at its end. Assumes nothing.
use Rattle.std.proofs.Common.{refl, arith}
use Rattle.c_grammar.proofs.Records.{read-start, read_step, read_done}
use Rattle.c_grammar.proofs.Whole.{whole-read}
use Rattle.c_grammar.proofs.read.read.Goals as goal

pub loop-r-init : goal.loop-r-init
loop-r-init c = read-start _ _ _ _ _ refl

pub loop-r-preserved : goal.loop-r-preserved
loop-r-preserved c = read_step _ _ _ _ _ c.loop-r.r _ _ c.loop-r.invariant (omega arith) c.read_rule.ensures (omega arith)

pub returns : goal.returns
returns c =
    whole-read _ _ _ _ _ c.byte-start.ensures c.from-count.ensures c.byte-depth.ensures (read_done _ _ _ _ _ _ c.loop-r.invariant (omega arith))
