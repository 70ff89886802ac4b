-- `fill_columns::write::close_cell` meets its contract. Assumes nothing.
use borrow.Author.Rules.{rules}
use native.Mathlib.Omega.{arith}
use Rattle.fill_columns.proofs.Writing.{cell-written}
use Rattle.fill_columns.proofs.write.close_cell.Statement.{statement}
use Rattle.fill_columns.proofs.write.close_cell.Tie as tie

pub close_cell_spec : {M : Type 1} → statement M
close_cell_spec = tie.close (tie.spec
    -- the reach of i, and the call of `begin_all`
    (λ c. omega arith) (λ c. omega arith) (λ c κs. omega arith)
    -- the cell (i, i), and the calls of `closure` and `put_flags`
    (λ c. omega arith) (λ c. omega arith) (λ c. omega arith) (λ c. omega arith) (λ c κs. omega arith) (λ c κs. omega arith)
    -- the store of the cell (i, n)
    (λ c. omega arith) (λ c. omega arith) (λ c. omega arith) (λ c. omega arith)
    -- what is promised
    (λ c. search rules) (λ c. (search cell-written, search rules, search rules, search rules)))
