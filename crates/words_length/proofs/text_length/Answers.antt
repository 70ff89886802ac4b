-- `words_length::text_length` meets its contract: the nodes' lengths are added one by one. Assumes nothing.
use Rattle.words_length.proofs.Sums.{sum-next, sum_done}
use Rattle.words_length.proofs.text_length.Goals as goal

pub loop-i-preserved : goal.loop-i-preserved
loop-i-preserved c = search sum-next

pub returns : goal.returns
returns c = search sum_done
