-- The loop writes each byte in turn. Assumes nothing.
use Rattle.std.proofs.Common.{arith}
use Rattle.c_grammar.proofs.Written.{written_start, name-step, name_done}
use Rattle.c_grammar.proofs.write.write_name.Goals as goal

pub loop-k-init : goal.loop-k-init
loop-k-init c = written_start _ _ _ _ _ _ c.well_formed.0.1.0.1 c.requires.1

pub loop-k-preserved : goal.loop-k-preserved
loop-k-preserved c = search name-step

pub returns-clause-f_after : goal.returns-clause-f_after
returns-clause-f_after c = name_done _ _ _ _ _ (omega arith) c.loop-k.invariant
