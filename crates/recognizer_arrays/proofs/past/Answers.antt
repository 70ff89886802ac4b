-- `recognizer_arrays::past` meets its contract: what `any` finds is a point past the count. Assumes nothing.
use Rattle.std.proofs.Common.{rules}
use Rattle.recognizer_arrays.proofs.Within.{past-is}
use Rattle.recognizer_arrays.proofs.past.Goals as goal

pub returns : goal.returns
returns c = past-is c.args.n c.args.points c.requires _ (search rules)
