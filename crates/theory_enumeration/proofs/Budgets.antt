-- From the fewest nodes that rows can have it follows which covers are skipped, and what a first node may cost. Assumes nothing.
use Prim.Native.Nat.{ℕ, ◌+◌, ◌-◌, ◌<◌}
use mathlib.Core.List.{List}
use native.Mathlib.Omega.{arith}
use Rattle.cfg.specs.Grammar.{Cfg, Symbol}
use Rattle.cfg.specs.Tree.{Forest, nodes}
use Rattle.theory_enumeration.specs.Rows.{Row, Tree, Skipped, Share}
use Rattle.theory_enumeration.specs.Order.{AtLeast}
use Rattle.theory_enumeration.proofs.Rows.{row-budget}

module _ (G : Cfg) (w : List ℕ) (cover mask k : ℕ) (places : List Symbol) (from to budget c : ℕ) where
  -- a rest within what a first node leaves is within the budget
  rest-wider : (x y : Forest) → Row G w cover mask places (from + c) to (budget - nodes x) y
      → Row G w cover mask places (from + c) to budget y
  rest-wider x y q = row-budget G w q (omega arith)

  pub least-skipped : (a b : ℕ) → AtLeast (Tree G w cover mask k from (from + c) budget) a
      → AtLeast (Row G w cover mask places (from + c) to budget) b → budget < a + b → Skipped G w cover mask k places from to budget c
  least-skipped a b f g l x y p q = omega (arith, f x p, g y (rest-wider x y q))

  pub least-share : (b : ℕ) → AtLeast (Row G w cover mask places (from + c) to budget) b
      → Share G w cover mask k places from to budget c (budget - b)
  least-share b g = record { within = omega arith; enough = λ x y p q. omega (arith, g y (rest-wider x y q)) }
