-- `words_text::put_number` meets its contract. Assumes nothing.
use native.Mathlib.Omega.{arith}
use Rattle.words_text.proofs.Digits.{number_put}
use Rattle.words_text.proofs.put_number.Statement.{statement}
use Rattle.words_text.proofs.put_number.Tie as tie

pub put_number_spec : {M : Type 1} → statement M
put_number_spec = tie.close (tie.spec
    (λ c κs. omega arith) (λ c κs. omega arith) (λ c κs. omega arith) (λ c κs. omega arith) (λ c κs. omega arith) (λ c κs. omega arith)
    (λ c κs. omega arith)
    (λ c. omega arith) (λ c. search number_put))
