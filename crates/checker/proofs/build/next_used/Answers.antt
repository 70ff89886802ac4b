-- `checker::build::next_used` meets its contract: the nodes passed cover nothing. Assumes nothing.
use Rattle.checker.proofs.Used.{used-passed}
use Rattle.checker.proofs.build.next_used.Goals as goal

pub loop-r-preserved : goal.loop-r-preserved
loop-r-preserved c = search used-passed
