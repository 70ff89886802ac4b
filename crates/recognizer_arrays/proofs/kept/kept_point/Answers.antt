-- `recognizer_arrays::kept::kept_point` meets its contract: the two cases of the definition. Assumes nothing.
use Rattle.std.proofs.Common.{arith}
use Rattle.std.proofs.lemmas.Grind.{common_steps}
use Rattle.results.specs.Points.{kept_point}
use Rattle.recognizer_arrays.proofs.kept.kept_point.Goals as goal

pub returns-then-from-n : goal.returns-then-from-n
unfolding kept_point
returns-then-from-n c = grind (arith, common_steps)

pub returns-else-from-n : goal.returns-else-from-n
unfolding kept_point
returns-else-from-n c = grind (arith, common_steps)
