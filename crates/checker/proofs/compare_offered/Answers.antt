-- `checker::compare_offered` meets its contract: refusal 12 if a row is no derivation. Assumes nothing.
use Rattle.checker.proofs.Answers.{build-first, build-second, build-says}
use Rattle.checker.proofs.compare_offered.Goals as goal

pub returns-then-not-is_derivation : goal.returns-then-not-is_derivation
returns-then-not-is_derivation c = search build-first

pub returns-then-not-is_derivation-2 : goal.returns-then-not-is_derivation-2
returns-then-not-is_derivation-2 c = search build-second

pub returns : goal.returns
returns c = search build-says
