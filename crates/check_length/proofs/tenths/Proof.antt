-- `check_length::tenths` meets its contract: the sum fits in 32 bits. Assumes nothing.
use mathlib.Core.Path.{ap, ◌∙◌}
use native.Mathlib.Omega.{arith}
use borrow.Author.Rules.{rules}
use Rattle.results.specs.Measure.{rounded}
use Rattle.numbers.proofs.Signs.{through}
use Rattle.check_length.proofs.tenths.Statement.{statement}
use Rattle.check_length.proofs.tenths.Tie as tie

returns : tie.Need-returns
returns c = through _ c.rounded.type_inv ∙ c.rounded.ensures ∙ ap rounded (through _ (omega arith) ∙ c.before.total.ensures.0)

pub tenths_spec : {M : Type 1} → statement M
tenths_spec = tie.close (tie.spec (λ c κs. omega arith) (λ c κs. search rules) returns)
