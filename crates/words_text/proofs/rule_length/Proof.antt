-- `words_text::rule_length` meets its contract: by whether the rule has a name. Assumes nothing.
use native.Mathlib.Omega.{arith}
use Rattle.words_text.proofs.Names.{length-number, length-name}
use Rattle.words_text.proofs.rule_length.Statement.{statement}
use Rattle.words_text.proofs.rule_length.Tie as tie

pub rule_length_spec : {M : Type 1} → statement M
rule_length_spec = tie.close (tie.spec
    (λ c κs. omega arith) (λ c κs. omega arith) (λ c. (search length-number, omega arith)) (λ c. (search length-name, omega arith)))
