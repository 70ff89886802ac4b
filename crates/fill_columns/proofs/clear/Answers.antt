-- The cells are zero, and what is behind them is as found. Assumes nothing.
use Rattle.std.proofs.Common.{ℕ, List, ◌++◌, ◌∙◌, ap, arith, drop, replicate, length-take-le}
use Rattle.sizes.specs.Sizes.{cells}
use Rattle.fill_columns.proofs.clear.Goals as goal

pub returns : goal.returns
returns c =
    ap (λ (l : List ℕ). l ++ drop cells c.args.chart.now)
    (c.fill.ensures.after (λ y h. h) ∙ ap (λ (n : ℕ). replicate n 0) (length-take-le cells c.args.chart.now (omega arith)))
