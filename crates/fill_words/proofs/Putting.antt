-- Adding the ends of one cell and of one column: what the steps of the code give. Assumes nothing.
use Prim.Native.Nat.{ℕ, ◌+◌, ◌*◌, ◌^◌, ◌<◌}
use mathlib.Core.Bool.{true}
use mathlib.Core.List.{List}
use mathlib.Core.Logic.{◌⊎◌, inl, inr, ⊎_elim, dite}
use mathlib.Core.Path.{◌≡◌, sym, ap, ◌∙◌, subst}
use native.Mathlib.Decide.{ℕ_discrete}
use native.Mathlib.Omega.{arith}
use lib.ListN.{length, get_or, set, length-set}
use Rattle.sizes.specs.Sizes.{max_input}
use Rattle.laws.proofs.Bools.{true-false}
use Rattle.sets.specs.Set.{has, insert}
use Rattle.sets.specs.Pairs.{LeastMember, Without}
use Rattle.sets.proofs.Laws.{has-empty, has-insert, has-insert-other, insert-new, has-high}
use Rattle.fill_words.proofs.Rows.{row_keeps, row_has, row-sound}
use Rattle.fill_words.specs.Spans.{ends_size, ends_of}
use Rattle.fill_words.specs.Ends.{EndAdded, CellPut}

-- ---- the members of a word

module _ (i b word : ℕ) (ends₀ : List ℕ) where
  -- all members except those of rest are done
  pub record PutTo (rest : ℕ) (ends : List ℕ) : Type 0 where
    pub long : length ends ≡ ends_size
    pub part : (k : ℕ) → has k rest ≡ true → has k word ≡ true
    pub keeps : (x j : ℕ) → has j (get_or ends₀ x 0) ≡ true → has j (get_or ends x 0) ≡ true
    pub all : (k : ℕ) → has k word ≡ true → (has k rest ≡ true) ⊎ (has b (ends_of ends i k) ≡ true)
    pub sound : (x j : ℕ) → has j (get_or ends x 0) ≡ true
        → (has j (get_or ends₀ x 0) ≡ true) ⊎ ((j ≡ b) × ((k : ℕ) × (k < 32) × (x ≡ 32 * i + k) × (has k word ≡ true)))

  pub put-start : length ends₀ ≡ ends_size → PutTo word ends₀
  put-start e = record { long = e; part = λ k h. h; keeps = λ x j h. h; all = λ k h. inl h; sound = λ x j h. inl h }

  pub put_step : (rest rest' k v : ℕ) (ends : List ℕ) → i < max_input → LeastMember 32 rest k → v ≡ insert b (get_or ends (32 * i + k) 0)
      → Without k rest rest' → PutTo rest ends → PutTo rest' (set ends (32 * i + k) v)
  put_step rest rest' k v ends small low e without to = record {
    long = length-set ends (32 * i + k) v ∙ to.long;
    part = λ j h. to.part j (ap (has j) (sym without.whole) ∙ has-insert j k rest' h);
    keeps = λ x j h. row_keeps ends (32 * i + k) b v room e x j (to.keeps x j h);
    all = λ j h. dite (ℕ_discrete j k)
        (λ d. inr (subst (λ (y : ℕ). has b (ends_of (set ends (32 * i + k) v) i y) ≡ true) (sym d) (row_has ends (32 * i + k) b v room e)))
        (λ d. ⊎_elim (λ x. inl (sym (has-insert-other j k rest' d) ∙ ap (has j) without.whole ∙ x))
        (λ x. inr (row_keeps ends (32 * i + k) b v room e (32 * i + j) b x)) (to.all j h));
    sound = λ x j h. ⊎_elim (to.sound x j) (λ y. inr (y.0, (k, low.below, y.1, to.part k low.member)))
        (row-sound ends (32 * i + k) b v room e x j h);
  }
    where
      room : 32 * i + k < length ends
      room = omega (arith, to.long, low.below)

  pub put-done : (rest : ℕ) (ends : List ℕ) → rest ≡ 0 → PutTo rest ends → EndAdded i b word ends₀ ends
  put-done rest ends z to = record {
    long = to.long;
    keeps = to.keeps;
    all = λ k h. ⊎_elim (λ x. absurd (true-false x (ap (has k) z ∙ has-empty k))) (λ x. x) (to.all k h);
    sound = to.sound;
  }

-- the rest gets smaller
pub rest-less : (k rest rest' : ℕ) → Without k rest rest' → rest' < rest
rest-less k rest rest' without = omega (arith, insert-new k rest' without.gone, without.whole)

-- ---- a cell

module _ (i b word : ℕ) (ends reach : List ℕ) (word_small : word < 2 ^ 32) where
  pub cell-put : (v : ℕ) (ends' : List ℕ) → i < max_input → length reach ≡ max_input → v ≡ insert b (get_or reach i 0)
      → EndAdded i b word ends ends'
      → CellPut i b word ends reach ends' (set reach i v)
  cell-put v ends' small long e put = record {
    put = put;
    long = length-set reach i v ∙ long;
    keeps = row_keeps reach i b v (omega (arith, long)) e;
    all = λ k h. row_has reach i b v (omega (arith, long)) e;
    high = λ k h. has-high k word word_small h;
  }

  pub cell-empty : word ≡ 0 → length ends ≡ ends_size → length reach ≡ max_input → CellPut i b word ends reach ends reach
  cell-empty z long reach_long = record {
    put = record { long = long; keeps = λ x j h. h; all = λ k h. absurd (none k h); sound = λ x j h. inl h };
    long = reach_long;
    keeps = λ x j h. h;
    all = λ k h. absurd (none k h);
    high = λ k h. has-high k word word_small h;
  }
    where
      none : (k : ℕ) → has k word ≡ true → ⊥
      none k h = true-false h (ap (has k) z ∙ has-empty k)
