-- One rule and the number of its left side: a lower cost is written and is reached, or the number is settled. Assumes nothing.
use Prim.Native.Nat.{ℕ, ◌≤◌, ◌<◌}
use mathlib.Core.Bool.{Bool, true, false, true≢false}
use mathlib.Core.List.{List}
use mathlib.Core.Logic.{dite}
use mathlib.Core.Path.{◌≡◌, refl, sym, ap, ◌∙◌}
use native.Mathlib.Decide.{ℕ_discrete, dec_lt}
use native.Mathlib.Omega.{arith}
use lib.ListN.{length, set, get_or, length-set}
use lib.Seq.{get_or-set_same, get_or-set_other}
use Rattle.sizes.specs.Sizes.{too_many, max_rules}
use Rattle.sets.specs.Set.{has}
use Rattle.theory_costs.proofs.Solve.{settled-by}
use Rattle.packed.specs.Packed.{left_in}
use Rattle.table_layout.specs.Layout.{full_in}
use Rattle.table_layout.proofs.Entries.{full-read, full-none}
use Rattle.table_solve.specs.Solve.{RuleOver, Wanted, Numbers, Reach, reach, AllReached, Settled, Improved}
use Rattle.table_solve.proofs.Total.{total-less}

-- ---- a number that is set

module _ (full : List ℕ) (k v : ℕ) where
  pub full-same : length full ≡ 32 → k < 32 → full_in (set full k v) k ≡ v
  full-same e h = sym (full-read (set full k v) k h) ∙ get_or-set_same full k v 0 (omega arith)

  pub full-other : (x : ℕ) → ¬ (x ≡ k) → full_in (set full k v) x ≡ full_in full x
  full-other x d =
      dite (dec_lt x 32) (λ h. sym (full-read (set full k v) x h) ∙ get_or-set_other full k x v 0 d ∙ full-read full x h)
      (λ h. sym (full-none (set full k v) x (omega arith)) ∙ full-none full x (omega arith))

  -- what holds of the new number and of each old one holds of each number
  pub full-each : (P : ℕ → ℕ → Type 0) → length full ≡ 32 → k < 32 → P k v → ((x : ℕ) → P x (full_in full x))
      → (x : ℕ) → P x (full_in (set full k v) x)
  full-each P e h new old x = dite (ℕ_discrete x k) (λ d. rw (d, full-same e h) new) (λ d. rw (full-other x d) (old x))

-- ---- one rule

module _ (p : List ℕ) (r cell mask : ℕ) (tables : List ℕ) (i j : ℕ) (full : List ℕ) {k : ℕ} (N : Numbers full)
    (e : k ≡ left_in p r) where
  kept : Settled p r cell mask tables i j full → Improved p r cell mask tables i j full full false
  kept S = record {
    numbers = N;
    reached = λ A. A;
    less = λ x. absurd (true≢false (sym x));
    same = λ _. refl;
    settled = λ _. S;
  }

  -- there is no such rule
  pub improved-hole : 32 ≤ k → Improved p r cell mask tables i j full full false
  improved-hole h = kept (λ fit least R l. absurd (omega arith))

  -- the number of its left side is not wanted
  pub improved-not : {b : Bool} → Wanted k cell mask b → b ≡ false → Improved p r cell mask tables i j full full false
  improved-not W f = kept (λ fit least R h c m. absurd
      (W.left f (ap (λ (x : ℕ). has x cell) e ∙ c) (ap (λ (x : ℕ). has x mask) e ∙ m)))

  module _ {b : Bool} {v : ℕ} (below : k < 32) (W : Wanted k cell mask b) (t : b ≡ true) (O : RuleOver p r full tables i j v) where
    -- its cost is no lower
    pub improved-same : get_or full k 0 ≤ v → Improved p r cell mask tables i j full full false
    improved-same l = kept (λ fit least R h c m.
        let f : get_or full k 0 ≡ full_in full (left_in p r) = full-read full k below ∙ ap (full_in full) e in
        settled-by (O.exact h fit least R) (omega arith))

    module _ (h : r < max_rules) (l : v < get_or full k 0) where
      -- the new number is reached by the old ones
      new-reached : AllReached p mask tables i j full → AllReached p mask tables i j (set full k v)
      new-reached A = record {
        at = λ fit least R.
            full-each full k v (λ (x y : ℕ). y < too_many → Reach fit least p mask i j x y) N.long below
            (λ _. reach (full_in full) h (sym e) below (W.taken t).1 (A.at fit least R)
            (O.exact (omega arith) fit least R))
            (A.at fit least R);
      }

      -- its cost is lower
      pub improved-lower : Improved p r cell mask tables i j full (set full k v) true
      improved-lower = record {
        numbers = record {
          long = length-set full k v ∙ N.long;
          capped = full-each full k v (λ (x y : ℕ). y ≤ too_many) N.long below
              (omega (arith, full-read full k below, N.capped k)) N.capped;
        };
        reached = new-reached;
        less = λ _. total-less full k v (omega (arith, N.long)) l;
        same = λ x. absurd (true≢false x);
        settled = λ x. absurd (true≢false x);
      }
