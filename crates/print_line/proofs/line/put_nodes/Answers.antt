-- Each turn writes the node of the two numbers at 2 i and 2 i + 1. Assumes nothing.
use Rattle.std.proofs.Common.{arith}
use Rattle.text.specs.Line.{parts}
use Rattle.print_number.proofs.Writing.{put-none}
use Rattle.print_line.proofs.Lines.{nodes-step, nodes-done}
use Rattle.print_line.proofs.line.put_nodes.Goals as goal

pub loop-i-init : goal.loop-i-init
unfolding parts
loop-i-init c = (put-none _ _ _ (omega arith), omega arith)

pub loop-i-preserved : goal.loop-i-preserved
loop-i-preserved c = (search nodes-step, omega arith)

pub returns : goal.returns
returns c = record { put = search nodes-done; upper_bound = omega arith }
