-- Writing the first derivation once the tables are made, and that the tables are right for the input. Assumes nothing.
use Prim.Native.Nat.{ℕ, ◌+◌, ◌*◌, ◌-◌, ◌≤◌}
use mathlib.Core.Bool.{false}
use mathlib.Core.List.{List, []}
use mathlib.Core.Path.{◌≡◌}
use native.Mathlib.Omega.{arith}
use lib.Dec.{leb}
use lib.ListN.{length}
use borrow.Author.Tests.{leb-false}
use Rattle.sizes.specs.Sizes.{max_rules, max_nodes, output_size, max_input}
use Rattle.sets.specs.Set.{empty}
use Rattle.cfg.specs.Listing.{L}
use Rattle.theory_costs.specs.Span.{bytes_of, Least, TreeOver}
use Rattle.theory_costs.proofs.Plain.{unmasked-least}
use Rattle.theory_choices.proofs.Root.{root-exceeds}
use Rattle.tree_first.specs.Descend.{InputGiven, FirstAt, NodeFirst}
use Rattle.theory_enumeration.specs.Rows.{Tree}
use Rattle.packed_fit.specs.Fit.{Told}
use Rattle.packed_fit.proofs.Reading.{fit-told}
use Rattle.packed.specs.Packed.{Used, cfg_in}
use Rattle.packed.proofs.Used.{used-past}
use Rattle.results.specs.Answer.{answered, handed}
use Rattle.table_layout.specs.Layout.{cost_in}
use Rattle.table_layout.specs.Exact.{Packing, ChartTrue}
use Rattle.table_all.specs.Spans.{Tabulated}
use Rattle.first_made.specs.Written.{enumeration_of, first_tree, FirstWritten}
use Rattle.first_made.proofs.Front.{front-put}
use Rattle.first_made.proofs.Input.{tabulated-input}
use Rattle.first_made.proofs.Root.{first-handed, same, start}

module _ (p : List ℕ) (rules : ℕ) (fits chart tables : List ℕ) (s n : ℕ) where
  -- the numbers of the tables are the least ones for an input of n bytes
  pub least_at : (w : List ℕ) → n ≡ length w → InputGiven p rules fits chart tables w
      → Least (TreeOver (Packing p) (bytes_of w) s 0 n) (cost_in tables s 0 n)
  least_at w to given = given.exact.least s 0 n (omega arith) (omega arith)

  -- so if the start symbol's number is too large, there is no derivation
  pub empty-larger : (w : List ℕ) → n ≡ length w → InputGiven p rules fits chart tables w → leb (cost_in tables s 0 n) max_nodes ≡ false
      → L (cfg_in s p) w ≡ []
  empty-larger w to given e =
      root-exceeds (Packing p) (cfg_in s p) (same p w s) w (start p w s) to (least_at w to given)
      (omega (arith, leb-false (cost_in tables s 0 n) max_nodes e))

  pub written-first : (out₀ out : List ℕ) (m : ℕ) → output_size ≤ length out₀
      → NodeFirst p rules fits chart tables s 0 n 0 max_nodes 0 out₀ out m → FirstWritten p rules fits chart tables s n out₀ out m
  written-first out₀ out m room N = record {
    exact = λ small w to given.
        go w to (N.exact w given (omega arith) (cost_in tables s 0 n) (unmasked-least (least_at w to given)) small);
  }
    where
      go : (w : List ℕ) → n ≡ length w → FirstAt (Tree (Packing p) w (n - 0) empty s 0 n max_nodes) out 0 m
          → enumeration_of (answered (handed m)) chart out ≡ first_tree (cfg_in s p) w chart out₀
      go w to F =
          let size = F.size in
          first-handed p w s chart out₀ (n - 0) n F.code out m (omega arith) to F.first size
          (front-put F.code out₀ out N.kept.long (omega (arith, N.kept.few))
          (λ x l. let z : 2 * 0 + x ≡ x = omega arith in rw z at (F.here x (omega arith))) (λ x l. N.kept.after x (omega arith)))

-- ---- the tables of an input are right for it

pub built : (p w : List ℕ) (rules : ℕ) (fits chart tables : List ℕ) → length w ≤ max_input → Told p w fits
    → ChartTrue p (bytes_of w) chart (length w) → (rules ≤ max_rules) × Used p rules → Tabulated p rules fits chart (length w) tables
    → (rules ≤ max_rules) × InputGiven p rules fits chart tables w
built p w rules fits chart tables h told cells (few, used) T =
    let past = used-past p rules used in
    let fitting = fit-told p w fits (length w) h told in
    let exact = tabulated-input w p rules fits chart (length w) tables T past fitting cells in
    (few, record { past = past; told = fitting; cells = cells; exact = exact })
