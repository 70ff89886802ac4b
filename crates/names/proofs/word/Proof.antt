-- `names::word` meets its contract. Assumes nothing.
use native.Mathlib.Omega.{arith}
use borrow.Author.Rules.{rules}
use Rattle.names.proofs.Compared.{word-halves}
use Rattle.names.proofs.word.Statement.{statement}
use Rattle.names.proofs.word.Tie as tie

returns : tie.Need-returns
returns c = let size = c.before.before.well_formed.0.1.0.1 in search word-halves

pub word_spec : {M : Type 1} → statement M
word_spec = tie.close (tie.spec
    (λ c. search rules) (λ c. search rules) (λ c. search rules) (λ c. search rules) (λ c κs. search rules)
    (λ c. search rules) (λ c. search rules) (λ c. search rules) (λ c. search rules) (λ c κs. search rules)
    (λ c. omega arith) (λ c. omega arith) returns)
