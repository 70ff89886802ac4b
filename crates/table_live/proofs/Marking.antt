-- The live starts of a rule and the first end that is one, by the tests that the code makes, and rows of 513. Assumes nothing.
use Prim.Native.Nat.{ℕ, ◌+◌, ◌≤◌, ◌<◌}
use mathlib.Core.Bool.{Bool, true, false, ◌&&◌, true≢false}
use mathlib.Core.List.{List}
use mathlib.Core.Path.{◌≡◌, refl, sym, ap, ◌∙◌}
use native.Mathlib.Decide.{ℕ_discrete}
use native.Mathlib.Omega.{arith}
use lib.ListN.{length, set, get_or, length-set}
use lib.Seq.{get_or-set_same, get_or-set_other}
use Rattle.sizes.specs.Sizes.{max_rules}
use Rattle.sets.specs.Set.{has, insert}
use Rattle.sets.specs.Pairs.{Common, FirstMember}
use Rattle.sets.proofs.Laws.{has-insert, has-insert-same}
use Rattle.packed.specs.Packed.{place_count}
use Rattle.table_live.specs.Live.{Silent, live_in, Marked, FirstEnd, NoneBefore, NonePut}

-- ---- marking a start

module _ (p : List ℕ) (r i : ℕ) (rows live : List ℕ) (h : length live ≡ max_rules) where
  module _ (l : r < max_rules) {w : ℕ} (e : w ≡ insert i (get_or live r 0)) where
    -- a start that was live is still live
    still : (s c : ℕ) → Dec (s ≡ r) → live_in (set live r w) s c ≡ false → (b : Bool) → live_in live s c ≡ b → live_in live s c ≡ false
    still s c d f false g = g
    still s c (yes x) f true g =
        let y : get_or (set live r w) s 0 ≡ insert i (get_or live s 0) =
        ap (λ (z : ℕ). get_or (set live r w) z 0) x ∙ get_or-set_same live r w 0 (omega arith) ∙ e
        ∙ ap (λ (z : ℕ). insert i (get_or live z 0)) (sym x)
        in
        absurd (true≢false (sym (has-insert c i (get_or live s 0) g) ∙ ap (has c) (sym y) ∙ f))
    still s c (no x) f true g = sym (ap (has c) (get_or-set_other live r s w 0 x)) ∙ f

    added : live_in (set live r w) r i ≡ true
    added = ap (has i) (get_or-set_same live r w 0 (omega arith) ∙ e) ∙ has-insert-same i (get_or live r 0)

    pub marked-live : Marked p r i rows live (set live r w)
    marked-live = record {
      size = length-set live r w ∙ h;
      grown = λ s c f. still s c (ℕ_discrete s r) f (live_in live s c) refl;
      here = λ f. absurd (true≢false (sym added ∙ f));
    }

  pub marked-not : {b : Bool} → b ≡ false → (b ≡ false → Silent p r i rows) → Marked p r i rows live live
  marked-not e f = record { size = h; grown = λ s c g. g; here = λ g. f e }

-- ---- rows of 513

module _ (p : List ℕ) (r i : ℕ) where
  pub none_end : {q m : ℕ} {rows₀ rows : List ℕ} → m ≡ place_count p r → q ≤ m + 1 → m < q → NoneBefore p r i q rows₀ rows
      → NonePut p r i rows₀ rows
  none_end {q} e h l S = let d : q ≡ place_count p r + 1 = omega arith in rw d at S

-- ---- the first end that is in both sets

module _ (i reach live : ℕ) {x k : ℕ} (C : Common reach live x) (F : FirstMember 64 x k) where
  none : (c : ℕ) → c < k → has c reach ≡ true → has c live ≡ false
  none c l e = ap (λ (b : Bool). b && has c live) (sym e) ∙ sym (C c) ∙ F.before c l

  pub end-there : i < k → FirstEnd i reach live k
  end-there h = record { behind = h; none = λ c x. none c }

  pub end-next : k ≤ i → FirstEnd i reach live (i + 1)
  end-next h = record { behind = omega arith; none = λ c x y. absurd (omega arith) }
