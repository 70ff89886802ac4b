-- `recognizer::state::invalid` meets its contract: what `any` finds is a point past the count. Assumes nothing.
use Rattle.std.proofs.Common.{rules, arith}
use Rattle.recognizer.specs.Recognizer.{state_in}
use Rattle.recognizer.proofs.Checked.{past-is}
use Rattle.recognizer.proofs.state.invalid.Goals as goal

pub returns : goal.returns
returns c = past-is (state_in c.args.h) (omega arith) _ (search rules)
