-- `checker::measure_offered` meets its contract: refusal 12 if the row is no derivation. Assumes nothing.
use Rattle.std.proofs.Common.{rules}
use Rattle.checker.proofs.Answers.{offered-short, length-yes, length-no}
use Rattle.checker.proofs.measure_offered.Goals as goal

pub tenths-requires : goal.tenths-requires
tenths-requires c = search (rules, offered-short)

pub returns-then-is_derivation : goal.returns-then-is_derivation
returns-then-is_derivation c = search (rules, length-yes)

pub returns-else-is_derivation : goal.returns-else-is_derivation
returns-else-is_derivation c = search length-no
