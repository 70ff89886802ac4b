-- From the tree after the one in the buffer, at the root, to the element of L after it. Assumes nothing.
use Prim.Native.Nat.{ℕ, suc, ◌+◌, ◌*◌, ◌-◌}
use mathlib.Core.List.{List, [], Memᴰ}
use mathlib.Core.Option.{none, some}
use mathlib.Core.Path.{◌≡◌, sym, ap, subst, ◌∙◌}
use native.Mathlib.Omega.{arith}
use lib.ListN.{length, get_or}
use Rattle.sizes.specs.Sizes.{max_nodes}
use Rattle.sets.specs.Set.{empty}
use Rattle.cfg.specs.Listing.{L}
use Rattle.theory_choices.proofs.NextRoot.{root_stands, root-follows-at, root-ends-at}
use Rattle.tree_next.specs.Advance.{NextAt, NodeNext}
use Rattle.theory_enumeration.specs.Order.{After, Last}
use Rattle.theory_enumeration.specs.Rows.{Tree}
use Rattle.packed.specs.Packed.{cfg_in}
use Rattle.results.specs.Enumerate.{after_in}
use Rattle.results.proofs.Demand3.Rows.{after_next, after_last}
use Rattle.results.proofs.Demand3.Listed.{L-rising}
use Rattle.table_layout.specs.Exact.{Packing}
use Rattle.first_made.proofs.Root.{same, start}
use Rattle.next_made.specs.Advanced.{StartsWith, Advanced, RootNext}

module _ (p w : List ℕ) (s c n : ℕ) (cover : c ≡ length w) (to : n ≡ length w) (d : List ℕ) (m : Memᴰ d (L (cfg_in s p) w)) where
  -- the code after d is the element after it
  after-tree : (e : List ℕ) → After (Tree (Packing p) w c empty s 0 n max_nodes) d e → after_in d (L (cfg_in s p) w) ≡ some e
  after-tree e A =
      let (i, more, here, next) = root-follows-at (Packing p) (cfg_in s p) (same p w s) w (start p w s) cover to m A in
      subst (λ (x : List ℕ). after_in x (L (cfg_in s p) w) ≡ some (get_or (L (cfg_in s p) w) (suc i) [])) here
      (after_next (L (cfg_in s p) w) (L-rising (cfg_in s p) w) i more)
      ∙ ap some next

  -- if there is no code after d, there is no element after it
  last-tree : Last (Tree (Packing p) w c empty s 0 n max_nodes) d → after_in d (L (cfg_in s p) w) ≡ none
  last-tree A =
      let (i, all, here) = root-ends-at (Packing p) (cfg_in s p) (same p w s) w (start p w s) cover to m A in
      subst (λ (x : List ℕ). after_in x (L (cfg_in s p) w) ≡ none) here (after_last (L (cfg_in s p) w) (L-rising (cfg_in s p) w) i all)

  pub advanced : (buf : List ℕ) (k : ℕ) → NextAt (Tree (Packing p) w c empty s 0 n max_nodes) d buf 0 k
      → Advanced (L (cfg_in s p) w) d buf k
  advanced buf k N = record {
    none_left = λ h. last-tree (N.none h);
    next = λ h.
        let A = N.some h in
        record {
          numbers = A.numbers;
          after = after-tree A.numbers A.after;
          size = A.size;
          here = λ y l. let z : 2 * 0 + y ≡ y = omega arith in rw z at (A.here y l);
        };
  }

pub root-next : (p : List ℕ) (rules : ℕ) (fits chart tables : List ℕ) (s n : ℕ) (buf₀ buf : List ℕ) (k : ℕ)
    → NodeNext p rules fits chart tables s 0 n 0 max_nodes 0 buf₀ buf k → RootNext p rules fits chart tables s n buf₀ buf k
root-next p rules fits chart tables s n buf₀ buf k N = record {
  kept = N.kept;
  exact = λ w to given d m here.
      let cover : n - 0 ≡ length w = omega arith in
      let (t, T, e) = root_stands (Packing p) (cfg_in s p) (same p w s) w (start p w s) cover to m in
      let at = N.exact w given (omega arith) t T
      (λ y l. let z : 2 * 0 + y ≡ y = omega arith in rw z (subst (StartsWith buf₀) (sym e) here y l)) in
      advanced p w s (n - 0) n cover to d m buf k
      (subst (λ (x : List ℕ). NextAt (Tree (Packing p) w (n - 0) empty s 0 n max_nodes) x buf 0 k) e at);
}
