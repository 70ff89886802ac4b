-- What is known of an input when a node is opened within a budget: the costs over its span, and those below the chosen rule.
-- Assumes nothing.
use Prim.Native.Nat.{ℕ, ◌-◌, ◌≤◌, ◌<◌}
use mathlib.Core.List.{List}
use mathlib.Core.Path.{◌≡◌, sym, subst, ◌∙◌}
use native.Mathlib.Omega.{arith}
use lib.ListN.{length, get_or}
use Rattle.sizes.specs.Sizes.{max_rules, max_nodes}
use Rattle.sets.specs.Set.{insert}
use Rattle.cfg.specs.Grammar.{Symbol, Of}
use Rattle.chart.specs.Cell.{fits_at}
use Rattle.theory_costs.specs.Cut.{LeastCut, within}
use Rattle.theory_choices.specs.SpanCosts.{SpanCosts}
use Rattle.theory_choices.proofs.Node.{rule-row}
use Rattle.packed.specs.Packed.{left_in}
use Rattle.packed.proofs.Laws.{places-start, of-in, in-of}
use Rattle.table_layout.specs.Layout.{cost_in, full_in}
use Rattle.table_layout.specs.Exact.{Packing}
use Rattle.table_suffix.specs.Within.{tail_in, row_at}
use Rattle.tree_first.specs.Descend.{InputGiven, BelowGiven, NodeOpened}
use Rattle.tree_first.proofs.Given.{span-solved, rule-lowest, rows_right}

-- all places of a rule are those of the grammar's rule
pub places_of : (p : List ℕ) (r k : ℕ) (o : Of (Packing p) r k) → tail_in p r 0 ≡ o.the.places
places_of p r k o = places-start p r ∙ sym (of-in 0 p r k o).3

module _ {p : List ℕ} {rules : ℕ} {fits chart tables : List ℕ} {from k i j own budget : ℕ} {full rows : List ℕ} {r : ℕ}
    (h : i ≤ j) (small : budget ≤ max_nodes) (O : NodeOpened p rules fits chart tables from k i j own budget full rows r)
    {w : List ℕ} (G : InputGiven p rules fits chart tables w) (known : j ≤ length w) (room : 0 < budget) where
  solved : SpanCosts (Packing p) w (fits_at w) own i j (full_in full) (cost_in tables)
  solved = span-solved G h known (O.solved room)

  -- the same under the mask above the node, with the node's nonterminal added
  pub under : (mask : ℕ) → own ≡ insert k mask → SpanCosts (Packing p) w (fits_at w) (insert k mask) i j (full_in full) (cost_in tables)
  under mask e = subst (λ (z : ℕ). SpanCosts (Packing p) w (fits_at w) z i j (full_in full) (cost_in tables)) e solved

  module _ (used : k < 32) (m : r < max_rules) where
    left-used : left_in p r < 32
    left-used = let a = ((O.chosen room).fits (omega arith)).left in omega arith

    pub chosen_of : Of (Packing p) r k
    chosen_of = in-of 0 p r k (omega arith) ((O.chosen room).fits (omega arith)).left left-used

    pub below : BelowGiven p rules fits chart tables full rows r i j own w
    below = record { given = G; solved = solved; costs = rows_right G h known (O.costs (omega arith)) }

    -- the places of the chosen rule cost no more than what its node leaves of the budget
    pub row_within : get_or rows (row_at 0 0 i) 0 ≤ budget - 1
    row_within =
        let A = (O.chosen room).fits (omega arith) in
        rule-row (rule-lowest G h known A.over left-used) A.within (omega arith)
        (subst (λ (z : List Symbol). LeastCut (fits_at w) (within i j (full_in full) (cost_in tables)) z i j (get_or rows (row_at 0 0 i) 0))
        (places-start p r) (below.costs 0 i (omega arith) (omega arith) h))
