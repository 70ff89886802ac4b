-- `fill_words::ends::put` meets its contract. Assumes nothing.
use borrow.Author.Rules.{rules}
use native.Mathlib.Omega.{arith}
use Rattle.fill_words.proofs.Putting.{cell-put, cell-empty}
use Rattle.fill_words.proofs.ends.put.Statement.{statement}
use Rattle.fill_words.proofs.ends.put.Tie as tie

returns : tie.Need-returns-then-word-ne0
returns c = cell-put _ _ _ _ _ (search rules) _ _ (search rules) (search rules) c.before.before.with.ensures c.put_members.ensures

pub put_spec : {M : Type 1} → statement M
put_spec = tie.close (tie.spec
    (λ c. omega arith) (λ c. omega arith) (λ c κs. omega arith) (λ c. omega arith) (λ c. omega arith) (λ c κs. omega arith) returns
    (λ c. cell-empty _ _ _ _ _ (search rules) (search rules) (search rules) (search rules)))
