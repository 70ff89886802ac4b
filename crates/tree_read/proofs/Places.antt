-- Rows of the places of a rule as rows of another list; if the buffer holds nothing that fits, no row is there. Assumes nothing.
use Prim.Native.Nat.{ℕ, ◌+◌, ◌≤◌}
use mathlib.Core.List.{List}
use mathlib.Core.Path.{◌≡◌, refl, sym, subst}
use native.Mathlib.Omega.{arith}
use lib.ListN.{length}
use Rattle.sizes.specs.Sizes.{max_nodes}
use Rattle.cfg.specs.Grammar.{Symbol}
use Rattle.cfg.specs.Tree.{Forest, code}
use Rattle.theory_enumeration.specs.Rows.{Row}
use Rattle.theory_choices.proofs.Stands.{leaf-opened}
use Rattle.tree_size.specs.Standing.{StandsAt}
use Rattle.table_layout.specs.Exact.{Packing}
use Rattle.table_suffix.specs.Within.{tail_in}
use Rattle.tree_first.proofs.RowSteps.{tail-terminal, tail-nonterminal}
use Rattle.tree_read.specs.declared.look.Step.TheVariants.{No}
use Rattle.tree_read.specs.Looked.{BufferLooked, no_byte, no_room, no_end, no_node}
use Rattle.tree_later.specs.Beyond.{AfterAt, NextAt}
use Rattle.tree_later.proofs.Codes.{tree-nonempty}
use Rattle.tree_read.proofs.Reading.{opened-here, size-here}

-- the rows of the places from q on, as rows of another list
module _ (p : List ℕ) (r q : ℕ) {w : List ℕ} {cover mask a j budget : ℕ} {places : List Symbol} (d : tail_in p r q ≡ places) where
  pub row_as : {f : Forest} → Row (Packing p) w cover mask (tail_in p r q) a j budget f → Row (Packing p) w cover mask places a j budget f
  row_as {f} R = subst (λ (s : List Symbol). Row (Packing p) w cover mask s a j budget f) d R

  pub next-as : {c buf : List ℕ} {at n : ℕ} → NextAt (Row (Packing p) w cover mask places a j budget) c buf at n
      → NextAt (Row (Packing p) w cover mask (tail_in p r q) a j budget) c buf at n
  next-as {c} {buf} {at} {n} N =
      subst (λ (s : List Symbol). NextAt (Row (Packing p) w cover mask s a j budget) c buf at n) (sym d) N

  pub after-as : {c buf : List ℕ} {at n : ℕ} → AfterAt (Row (Packing p) w cover mask places a j budget) c buf at n
      → AfterAt (Row (Packing p) w cover mask (tail_in p r q) a j budget) c buf at n
  after-as {c} {buf} {at} {n} N =
      subst (λ (s : List Symbol). AfterAt (Row (Packing p) w cover mask s a j budget) c buf at n) (sym d) N

-- if the buffer holds nothing that fits, no row is there
module _ {p : List ℕ} {r q a j budget at : ℕ} {buf : List ℕ} (l : a ≤ j) (room : at + budget ≤ max_nodes) where
  pub none-stands : {w : List ℕ} {cover mask : ℕ} {f : Forest} → BufferLooked p r q buf at a j budget No → j ≤ length w
      → Row (Packing p) w cover mask (tail_in p r q) a j budget f → StandsAt buf at (code f) → ⊥
  none-stands (no_byte c n m) known R S =
      let (g, o) = leaf-opened known l (a + 1) (row_as p r q (tail-terminal p r q c n) R) (omega arith) in
      let x = o.more in
      omega arith
  none-stands (no_room c n e) known R S =
      let (x, y, o) = opened-here buf at S known l (row_as p r q (tail-nonterminal p r q c n refl) R) refl in
      omega (arith, tree-nonempty o.child.fit, o.child.small)
  none-stands (no_end c n e d) known R S =
      let (x, y, o) = opened-here buf at S known l (row_as p r q (tail-nonterminal p r q c n refl) R) e in
      omega (arith, o.inside)
  none-stands (no_node c n Z d) known R S =
      let (x, y, o) = opened-here buf at S known l (row_as p r q (tail-nonterminal p r q c n refl) R) refl in
      let s = size-here Z S o room in
      omega (arith, o.child.small)
