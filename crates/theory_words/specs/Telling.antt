-- When the texts of rules tell the rules apart, in any text of a forest. Assumes nothing.
use Rattle.std.specs.Prelude.{ℕ, ◌<◌, true, false, ◌||◌, List, ◌∷◌, ◌++◌, ◌≢◌, ◌≡◌, get_or}
use Rattle.theory_words.specs.Name.{valid_name, unnamed}
use Rattle.theory_words.specs.Words.{opening, closing, leaf_sign}

-- the first byte of a text, and `)` if it is empty
abbrev pub first_byte : List ℕ → ℕ
first_byte x = get_or x 0 closing

-- the texts of the rules below n tell which rule, with whatever follows their `(`
pub record Telling (n : ℕ) (names : ℕ → List ℕ) : Type 0 where
  pub apart : (r s : ℕ) (x y : List ℕ) → r < n → s < n → names r ++ (opening ∷ x) ≡ names s ++ (opening ∷ y) → r ≡ s
  -- none begins as a leaf does, or where a row of places ends
  pub not_leaf : (r : ℕ) (x : List ℕ) → r < n → first_byte (names r ++ (opening ∷ x)) ≢ leaf_sign
  pub not_end : (r : ℕ) (x : List ℕ) → r < n → first_byte (names r ++ (opening ∷ x)) ≢ closing

-- the names of the rules below n: each rule has a valid one or none, and no two rules have the same
pub record DistinctNames (n : ℕ) (name : ℕ → List ℕ) : Type 0 where
  pub valid : (r : ℕ) → r < n → (unnamed (name r) || valid_name (name r)) ≡ true
  pub distinct : (r s : ℕ) → r < n → s < n → unnamed (name r) ≡ false → name r ≡ name s → r ≡ s
