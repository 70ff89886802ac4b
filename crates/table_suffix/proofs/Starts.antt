-- The least costs of a rule's places from one start are written from the last place to the first. Assumes nothing.
use Prim.Native.Nat.{ℕ, suc, ◌+◌, ◌*◌, ◌-◌, ◌≤◌, ◌<◌}
use mathlib.Core.Bool.{Bool}
use mathlib.Core.List.{List, []}
use mathlib.Core.Path.{◌≡◌, refl, sym, subst, ◌∙◌}
use native.Mathlib.Decide.{ℕ_discrete}
use native.Mathlib.Omega.{arith}
use lib.ListN.{length, set, get_or, length-set}
use lib.Seq.{get_or-set_same, get_or-set_other}
use Rattle.sizes.specs.Sizes.{max_places, side}
use Rattle.sets.specs.Set.{has}
use Rattle.cfg.specs.Grammar.{Symbol}
use Rattle.chart.specs.Cell.{Fit}
use Rattle.theory_costs.specs.Cut.{within}
use Rattle.packed.specs.Packed.{place_count}
use Rattle.packed.proofs.Laws.{places-end}
use Rattle.table_layout.specs.Layout.{cost_in, full_in, rows_size}
use Rattle.table_cut.specs.Suffix.{EndsPassedOver, AtEnd}
use Rattle.table_cut.specs.Within.{RestsInside, SuffixAt}
use Rattle.table_suffix.specs.Within.{tail_in, InsideCost, row_at, Word, LaterStarts, EndsPassed, ColumnFrom, ColumnPut}

module _ (p : List ℕ) (r word : ℕ) (tables full : List ℕ) (i a from j at : ℕ) where
  pub column-start : (rows : List ℕ) {m : ℕ} → m ≡ place_count p r → ColumnFrom p r word tables full i a from j at m rows rows
  column-start rows {m} e = record {
    long = refl;
    other = λ n d. refl;
    exact = λ fit W P L E s x y.
        let q : s ≡ place_count p r = omega arith in
        let t : tail_in p r (place_count p r) ≡ [] = places-end p r (place_count p r) (omega arith) in
        rw q (subst (λ (z : List Symbol). InsideCost fit tables full i j z a (get_or rows (row_at at (place_count p r) a) 0)) (sym t) E);
  }

  -- one place more, as the code counts: from n down to n - 1
  module _ (rows₀ rows : List ℕ) (n v : ℕ) {b : Bool} (h : a ≤ j) (l : j < side) (few : place_count p r ≤ max_places)
      (o : n ≤ place_count p r) (some : 0 < n) (k : at + rows_size ≤ length rows) (e : b ≡ has (n - 1) word)
      (S : ColumnFrom p r word tables full i a from j at n rows₀ rows)
      (X : SuffixAt p r (n - 1) b tables full i a from j rows (at + side * (n - 1 + 1)) v) where
    abbrev q : ℕ
    q = n - 1

    -- the ends that are not read cost too much with the places after q
    passed : EndsPassed p r tables a from j rows₀ at → EndsPassedOver tables a from j rows (at + side * (q + 1))
    passed P k c x y z =
        omega (arith, S.other (row_at at (q + 1) c) (λ s u v. omega arith), P (q + 1) (omega arith) (omega arith) k c x y z)

    -- the costs of the places after q, from every start
    rests : (fit : Fit) → Word fit p r a j word → EndsPassed p r tables a from j rows₀ at
        → LaterStarts fit p r tables full i a j rows₀ at → InsideCost fit tables full i j [] a (get_or rows₀ (row_at at (place_count p r) a) 0)
        → RestsInside fit tables full i j (tail_in p r (suc q)) a rows (at + side * (q + 1))
    rests fit W P L E c m n = go (ℕ_discrete c a)
      where
        f : suc q ≡ q + 1
        f = omega arith

        go : Dec (c ≡ a) → InsideCost fit tables full i j (tail_in p r (suc q)) c (get_or rows (at + side * (q + 1) + c) 0)
        go (yes d) = rw (d, f) (S.exact fit W P L E (q + 1) (omega arith) (omega arith))
        go (no d) =
            let x : ¬ (c ≡ a) = d in
            rw (f, S.other (row_at at (q + 1) c) (λ s y z. x (omega arith))) (L (q + 1) c (omega arith) (omega arith) n)

    here : (fit : Fit) → Word fit p r a j word → EndsPassed p r tables a from j rows₀ at
        → LaterStarts fit p r tables full i a j rows₀ at → InsideCost fit tables full i j [] a (get_or rows₀ (row_at at (place_count p r) a) 0)
        → (s : ℕ) → q ≤ s → s ≤ place_count p r → Dec (s ≡ q)
        → InsideCost fit tables full i j (tail_in p r s) a (get_or (set rows (row_at at q a) v) (row_at at s a) 0)
    here fit W P L E s m n (yes d) =
        rw (d, get_or-set_same rows (row_at at q a) v 0 (omega arith))
        (X.exact fit (λ t u. e ∙ W q (omega arith) t u) (passed P) (rests fit W P L E))
    here fit W P L E s m n (no d) =
        let x : ¬ (s ≡ q) = d in
        rw (get_or-set_other rows (row_at at q a) (row_at at s a) v 0 (λ y. x (omega arith))) (S.exact fit W P L E s (omega arith) n)

    pub column-back : ColumnFrom p r word tables full i a from j at (n - 1) rows₀ (set rows (at + side * (n - 1) + a) v)
    column-back = record {
      long = length-set rows (row_at at q a) v ∙ S.long;
      other = λ n d. get_or-set_other rows (row_at at q a) n v 0 (d q (omega arith)) ∙ S.other n d;
      exact = λ fit W P L E s m n. here fit W P L E s m n (ℕ_discrete s q);
    }

  -- the number after the last place, which is written first
  module _ {q : ℕ} (rows₀ rows : List ℕ) (m v : ℕ) (e : m ≡ place_count p r) (b : m ≤ max_places) (l : j < side) (h : a ≤ j)
      (k : at + rows_size ≤ length rows₀) (E : AtEnd a j v) (none : q ≤ 0)
      (S : ColumnFrom p r word tables full i a from j at q (set rows₀ (at + side * m + a) v) rows) where
    last : (fit : Fit) → InsideCost fit tables full i j [] a (get_or (set rows₀ (row_at at m a) v) (row_at at (place_count p r) a) 0)
    last fit =
        rw (← e, get_or-set_same rows₀ (row_at at m a) v 0 (omega arith)) (E.exact fit (within i j (full_in full) (cost_in tables)))

    later : (fit : Fit) → LaterStarts fit p r tables full i a j rows₀ at
        → LaterStarts fit p r tables full i a j (set rows₀ (row_at at m a) v) at
    later fit L q c x y z = rw (get_or-set_other rows₀ (row_at at m a) (row_at at q c) v 0 (λ w. omega arith)) (L q c x y z)

    ends : EndsPassed p r tables a from j rows₀ at → EndsPassed p r tables a from j (set rows₀ (row_at at m a) v) at
    ends P q x y k c z w u = omega (arith, get_or-set_other rows₀ (row_at at m a) (row_at at q c) v 0 (λ s. omega arith), P q x y k c z w u)

    pub column-end : ColumnPut p r word tables full i a from j at rows₀ rows
    column-end = record {
      long = S.long ∙ length-set rows₀ (row_at at m a) v;
      other = λ n d. S.other n (λ s x. d s (omega arith)) ∙ get_or-set_other rows₀ (row_at at m a) n v 0 (d m (omega arith));
      exact = λ fit W P L s x. S.exact fit W (ends P) (later fit L) (last fit) s (omega arith) x;
    }
