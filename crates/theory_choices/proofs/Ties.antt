-- The forests of the enumeration are those over the bytes of the input, within a budget. So the least costs of a piece, and of the places
-- after it, bound the nodes of the forests over them. Assumes nothing.
use Prim.Native.Nat.{ℕ, ◌-◌, ◌≤◌}
use mathlib.Core.List.{List}
use native.Mathlib.Omega.{arith}
use lib.ListN.{length}
use Rattle.cfg.specs.Grammar.{Cfg, Symbol}
use Rattle.cfg.specs.Tree.{Forest, yield, nodes}
use Rattle.chart.specs.Cell.{Fit}
use Rattle.theory_costs.specs.Cut.{Cost, LeastCut, within}
use Rattle.theory_costs.specs.Span.{bytes_of, FreeTree}
use Rattle.theory_costs.specs.Solve.{PlainRow}
use Rattle.theory_costs.proofs.Span.{slice-reads, least-below}
use Rattle.theory_costs.proofs.Within.{within-cases}
use Rattle.theory_costs.proofs.Rows.{leastcut-least}
use Rattle.theory_enumeration.specs.Rows.{Row, Tree}
use Rattle.theory_enumeration.specs.Order.{AtLeast}
use Rattle.theory_choices.specs.SpanCosts.{SpanCosts}

module _ {G : Cfg} {w : List ℕ} {cover mask : ℕ} {places : List Symbol} {a b budget : ℕ} {f : Forest} (known : b ≤ length w) where
  pub row→plain : a ≤ b → Row G w cover mask places a b budget f → PlainRow G (bytes_of w) mask cover places a b f × (nodes f ≤ budget)
  row→plain h r = (
    (
      (record { fitted = r.fit; reads = slice-reads w (yield f) h known r.covers }, record { none = r.free }),
      r.plain,
    ),
    r.small,
  )

module _ {G : Cfg} {w : List ℕ} {fit : Fit} {M i j : ℕ} {full : ℕ → ℕ} {least : Cost} (S : SpanCosts G w fit M i j full least) where
  -- the rows over a suffix of the span
  pub suffix-atleast : {places : List Symbol} {a v : ℕ} (budget : ℕ) → i ≤ a → a ≤ j → LeastCut fit (within i j full least) places a j v
      → AtLeast (Row G w (j - i) M places a j budget) v
  suffix-atleast budget h l L f r =
      least-below (leastcut-least G S.tells M i j full least S.inside S.exact h L) f (row→plain S.known l r).0.0

  -- the trees over a piece
  pub piece-atleast : (k a b budget : ℕ) → i ≤ a → a ≤ b → b ≤ j
      → AtLeast (Tree G w (j - i) M k a b budget) (within i j full least k a b)
  piece-atleast k a b budget h l m f r = within-cases i j full least k (λ (x : ℕ). x ≤ nodes f) a b h l m
      (λ e d. least-below (S.exact.at k) f (rw (e, d) at free))
      (λ q. least-below (S.inside.at k a b h l m q) f free.0)
    where
      free : FreeTree G (bytes_of w) M (j - i) k a b f
      free = (row→plain (omega (arith, S.known)) l r).0.0
