-- The list L of the packed grammar: it is empty if the chart is not complete; if a tree has few enough nodes, the first tree is handed
-- out. Assumes nothing.
use Prim.Native.Nat.{ℕ, ◌*◌, ◌/◌}
use mathlib.Core.Bool.{false}
use mathlib.Core.List.{List, [], ◌++◌}
use mathlib.Core.Path.{◌≡◌, refl, ap}
use native.Mathlib.Omega.{arith}
use lib.ListN.{length, drop}
use Rattle.sizes.specs.Sizes.{max_nodes}
use Rattle.sets.specs.Set.{empty, has}
use Rattle.cfg.specs.Listing.{L}
use Rattle.chart.proofs.SameRules.{SameRules}
use Rattle.chart.specs.Cell.{cell}
use Rattle.theory_costs.specs.Span.{bytes_of}
use Rattle.theory_choices.proofs.Root.{root-begins, root-barren}
use Rattle.theory_enumeration.specs.Order.{Min}
use Rattle.theory_enumeration.specs.Rows.{Tree}
use Rattle.packed.specs.Packed.{cfg_in}
use Rattle.results.specs.Answer.{answered, handed}
use Rattle.results.specs.Enumerate.{head_of, handing_out}
use Rattle.table_layout.specs.Exact.{Packing, ChartTrue}
use Rattle.first_made.specs.Written.{enumeration_of, first_tree}

module _ (p w : List ℕ) (s : ℕ) where
  -- the start symbol makes no difference to the rules
  pub same : SameRules (Packing p) (cfg_in s p)
  unfolding cfg_in
  same r = refl

  pub start : s ≡ (cfg_in s p).start
  unfolding cfg_in
  start = refl

  -- there is no derivation if the chart is not complete
  pub empty-incomplete : (chart : List ℕ) → ChartTrue p (bytes_of w) chart (length w) → has s (cell chart 0 (length w)) ≡ false
      → L (cfg_in s p) w ≡ []
  empty-incomplete chart cells absent =
      root-barren (Packing p) (cfg_in s p) same w start refl (cells 0 (length w) (omega arith) (omega arith) s absent)

  module _ (chart out : List ℕ) where
    pub first-handed : (c n : ℕ) (e out' : List ℕ) (m : ℕ) → c ≡ length w → n ≡ length w
        → Min (Tree (Packing p) w c empty s 0 n max_nodes) e
        → length e ≡ 2 * m → out' ≡ e ++ drop (length e) out
        → enumeration_of (answered (handed m)) chart out' ≡ first_tree (cfg_in s p) w chart out
    unfolding handing_out head_of
    first-handed c n e out' m cover to M l f =
        let half : m ≡ length e / 2 = omega arith in
        rw ((root-begins (Packing p) (cfg_in s p) same w start cover to M).1, f)
        (ap (λ (x : ℕ). enumeration_of (answered (handed x)) chart (e ++ drop (length e) out)) half)
