-- `fill_columns::open_chart` meets its contract. Assumes nothing.
use native.Mathlib.Omega.{arith}
use Rattle.fill_columns.proofs.Filling.{opened-is}
use Rattle.fill_columns.proofs.open_chart.Statement.{statement}
use Rattle.fill_columns.proofs.open_chart.Tie as tie

pub open_chart_spec : {M : Type 1} → statement M
open_chart_spec = tie.close (tie.spec
    (λ c κs. omega arith) (λ c κs. omega arith) (λ c κs. omega arith) (λ c. omega arith) (λ c. search opened-is))
