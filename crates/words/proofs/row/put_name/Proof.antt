-- `words::row::put_name` meets its contract. Assumes nothing.
use native.Mathlib.Omega.{arith}
use borrow.Author.Rules.{rules}
use Rattle.words.proofs.NameRow.{name-long, name-room}
use Rattle.words.proofs.row.put_name.Statement.{statement}
use Rattle.words.proofs.row.put_name.Tie as tie

pub put_name_spec : {M : Type 1} → statement M
put_name_spec = tie.close (tie.spec
    (λ c. search rules) (λ c κs. search name-room) (λ c. omega arith) (λ c. search name-long))
