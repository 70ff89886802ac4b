-- `words_text::digit` meets its contract. Assumes nothing.
use native.Mathlib.Omega.{arith}
use Rattle.words_text.proofs.Digits.{digit_low, digit-high}
use Rattle.words_text.proofs.digit.Statement.{statement}
use Rattle.words_text.proofs.digit.Tie as tie

pub digit_spec : {M : Type 1} → statement M
digit_spec = tie.close (tie.spec
    (λ c. omega arith) (λ c. omega arith) (λ c. omega arith) (λ c. omega arith) (λ c. search digit_low) (λ c. search digit-high))
