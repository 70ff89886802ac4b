-- The tables are written number by number. Assumes nothing.
use Prim.Native.Nat.{ℕ, suc, ◌+◌, ◌*◌, ◌≤◌, ◌<◌, min}
use mathlib.Core.List.{List}
use mathlib.Core.Logic.{dite}
use mathlib.Core.Path.{◌≡◌, sym, ◌∙◌}
use native.Mathlib.Decide.{ℕ_discrete, dec_lt}
use native.Mathlib.Omega.{arith}
use lib.ListN.{set, get_or, length-set}
use lib.Seq.{get_or-set_same, get_or-set_other}
use Rattle.sizes.specs.Sizes.{too_many, max_rules, side, cells}
use Rattle.table_layout.specs.Layout.{bare_at, bare_in, cost_in, full_in, rows_size}
use Rattle.table_layout.proofs.Entries.{cost-read, cost-none, full-read, full-none}
use Rattle.table_layout.proofs.Bares.{bare-behind, bare-inside, bare_apart}
use Rattle.table_write.specs.Writes.{place_at, LeastBefore, LeastPut, BaresPut}

-- ---- the least table

-- a cost stays if its number stays
pub cost-same : (tables₀ tables : List ℕ) (k a b : ℕ)
    → (k < 32 → get_or tables (cells * k + side * a + b) 0 ≡ get_or tables₀ (cells * k + side * a + b) 0)
    → cost_in tables k a b ≡ cost_in tables₀ k a b
cost-same tables₀ tables k a b f =
    dite (dec_lt k 32) (λ h. sym (cost-read tables k a b h) ∙ f h ∙ cost-read tables₀ k a b h)
    (λ h. sym (cost-none tables k a b (omega arith)) ∙ cost-none tables₀ k a b (omega arith))

module _ (full : List ℕ) (i j : ℕ) where
  module _ (m : ℕ) (tables₀ tables : List ℕ) (h : i < side) (l : j < side) (o : m < 32) (S : LeastBefore full i j m tables₀ tables) where
    abbrev next : List ℕ
    next = set tables (cells * m + side * i + j) (get_or full m 0)

    apart : (n : ℕ) → ¬ (n ≡ cells * m + side * i + j) → get_or next n 0 ≡ get_or tables n 0
    apart n d = get_or-set_other tables (cells * m + side * i + j) n (get_or full m 0) 0 d

    here : (k : ℕ) → k < m + 1 → Dec (k ≡ m) → cost_in next k i j ≡ full_in full k
    here k x (yes d) =
        rw d (sym (cost-read next m i j o)
        ∙ get_or-set_same tables (cells * m + side * i + j) (get_or full m 0) 0 (omega (arith, S.long)) ∙ full-read full m o)
    here k x (no d) =
        let c : ¬ (k ≡ m) = d in
        cost-same tables next k i j (λ _. apart (cells * k + side * i + j) (λ y. c (omega arith))) ∙ S.here k (omega arith)

    pub least_step : LeastBefore full i j (m + 1) tables₀ (set tables (cells * m + side * i + j) (get_or full m 0))
    least_step = record {
      long = length-set tables (cells * m + side * i + j) (get_or full m 0) ∙ S.long;
      here = λ k x. here k x (ℕ_discrete k m);
      other = λ k a b x y d.
          cost-same tables next k a b (λ _. apart (cells * k + side * a + b) (λ e. d (omega arith, omega arith))) ∙ S.other k a b x y d;
      rest = λ n x. apart n (λ e. omega arith) ∙ S.rest n x;
    }

  pub least-end : {m : ℕ} {tables₀ tables : List ℕ} → 32 ≤ m → LeastBefore full i j m tables₀ tables → LeastPut full i j tables₀ tables
  least-end {tables = tables} x S = record {
    long = S.long;
    here = λ k.
        dite (dec_lt k 32) (λ h. S.here k (omega arith)) (λ h. sym (cost-none tables k i j (omega arith)) ∙ full-none full k (omega arith));
    other = S.other;
    rest = S.rest;
  }

-- ---- the costs without a child over the whole span

module _ (i j : ℕ) (rows : List ℕ) where
  module _ (m rules : ℕ) (tables₀ tables : List ℕ) {at v w : ℕ} (h : i < j) (l : j < side) (y : m < rules) (z : rules ≤ max_rules)
      (e : at ≡ bare_at i j m) (f : w ≡ get_or rows (rows_size * m + i) 0) (g : v ≡ min (suc w) too_many)
      (S : BaresPut m i j rows tables₀ tables) where
    abbrev put : List ℕ
    put = set tables at v

    others : (n : ℕ) → ¬ (n ≡ bare_at i j m) → get_or put n 0 ≡ get_or tables n 0
    others n d = get_or-set_other tables at n v 0 (λ x. d (x ∙ e))

    written : (r : ℕ) → r < m + 1 → Dec (r ≡ m) → bare_in put i j r ≡ min (suc (get_or rows (place_at r 0 i) 0)) too_many
    written r x (yes d) =
        let n : place_at m 0 i ≡ rows_size * m + i = omega arith in
        rw (d, ← e, get_or-set_same tables at v 0 (omega (arith, S.long, bare-inside i j m h l (omega arith))), n, ← f) g
    written r x (no d) =
        let c : ¬ (r ≡ m) = d in
        others (bare_at i j r) (bare_apart i j r i j m h l (omega arith) h l (omega arith) (λ y. c y.2)) ∙ S.here r (omega arith)

    pub bares-step : BaresPut (m + 1) i j rows tables₀ (set tables at v)
    bares-step = record {
      long = length-set tables at v ∙ S.long;
      here = λ r x. written r x (ℕ_discrete r m);
      other = λ a b r x n t d.
          others (bare_at a b r) (bare_apart a b r i j m x n t h l (omega arith) (λ u. d (u.0, u.1))) ∙ S.other a b r x n t d;
      front = λ n x. others n (λ y. let u = bare-behind i j m in omega arith) ∙ S.front n x;
    }
