-- The least costs of a rule's places from one start, inside a span from i to j, as the rows of the rule have them.
-- Assumes nothing.
use Rattle.std.specs.Prelude.{ℕ, ◌+◌, ◌*◌, ◌≤◌, ◌<◌, false, List, [], ◌≢◌, ◌≡◌, length, get_or}
use Rattle.sizes.specs.Sizes.{side}
use Rattle.sets.specs.Set.{has}
use Rattle.chart.specs.Cell.{Fit}
use Rattle.packed.specs.Packed.{place_count, is_nonterminal_in, terminal_in}
use Rattle.table_cut.specs.Suffix.{EndsPassedOver}
pub use Rattle.table_cut.specs.Within.{tail_in, InsideCost}

-- where the cost of the places from q on, from the start a, is stored in the rows of one rule that begin at `at`
abbrev pub row_at : ℕ → ℕ → ℕ → ℕ
row_at at q a = at + side * q + a

-- the word says for each terminal of rule r whether it fits the byte at a
abbrev pub Word : Fit → List ℕ → ℕ → ℕ → ℕ → ℕ → Type 0
Word fit p r a j word = (q : ℕ) → q < place_count p r → is_nonterminal_in p r q ≡ false → a < j → has q word ≡ fit a (terminal_in p r q)

-- the rows of rule r have the costs from each start after a
abbrev pub LaterStarts : Fit → List ℕ → ℕ → List ℕ → List ℕ → ℕ → ℕ → ℕ → List ℕ → ℕ → Type 0
LaterStarts fit p r tables full i a j rows at = (q c : ℕ) → q ≤ place_count p r → a < c → c ≤ j
    → InsideCost fit tables full i j (tail_in p r q) c (get_or rows (row_at at q c) 0)

-- each end after a, before `from` and before j, costs too much with each suffix of rule r after its first place
abbrev pub EndsPassed : List ℕ → ℕ → List ℕ → ℕ → ℕ → ℕ → List ℕ → ℕ → Type 0
EndsPassed p r tables a from j rows at = (q : ℕ) → 0 < q → q ≤ place_count p r → EndsPassedOver tables a from j rows (at + side * q)

-- the costs of rule r from the start a are written for the places from q on, but not for the end; all other numbers are unchanged
pub record ColumnFrom (p : List ℕ) (r word : ℕ) (tables full : List ℕ) (i a from j at q : ℕ) (rows₀ rows : List ℕ) : Type 0 where
  pub long : length rows ≡ length rows₀
  pub other : (n : ℕ) → ((s : ℕ) → s < place_count p r → n ≢ row_at at s a) → get_or rows n 0 ≡ get_or rows₀ n 0
  pub exact : (fit : Fit) → Word fit p r a j word → EndsPassed p r tables a from j rows₀ at → LaterStarts fit p r tables full i a j rows₀ at
      → InsideCost fit tables full i j [] a (get_or rows₀ (row_at at (place_count p r) a) 0)
      → (s : ℕ) → q ≤ s → s ≤ place_count p r → InsideCost fit tables full i j (tail_in p r s) a (get_or rows (row_at at s a) 0)

-- all costs of rule r from the start a are written into its rows; all other numbers are unchanged
pub record ColumnPut (p : List ℕ) (r word : ℕ) (tables full : List ℕ) (i a from j at : ℕ) (rows₀ rows : List ℕ) : Type 0 where
  pub long : length rows ≡ length rows₀
  pub other : (n : ℕ) → ((s : ℕ) → s ≤ place_count p r → n ≢ row_at at s a) → get_or rows n 0 ≡ get_or rows₀ n 0
  pub exact : (fit : Fit) → Word fit p r a j word → EndsPassed p r tables a from j rows₀ at → LaterStarts fit p r tables full i a j rows₀ at
      → (s : ℕ) → s ≤ place_count p r → InsideCost fit tables full i j (tail_in p r s) a (get_or rows (row_at at s a) 0)
