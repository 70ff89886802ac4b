-- What is written into the tables, and what stays unchanged. Assumes nothing.
use Rattle.std.specs.Prelude.{ℕ, suc, ◌*◌, ◌≤◌, ◌<◌, min, List, ◌≡◌, length, get_or}
use Rattle.sizes.specs.Sizes.{max_rules, side, too_many}
use Rattle.table_suffix.specs.Within.{row_at}
use Rattle.table_layout.specs.Layout.{least_size, bares_at, tables_size, rows_size, cost_in, full_in, bare_in}

-- the size of the rows of all rules
abbrev pub all_rows : ℕ
all_rows = rows_size * max_rules

-- where the cost of the places of rule r from q on, from the start a, is stored in them
abbrev pub place_at : ℕ → ℕ → ℕ → ℕ
place_at r q a = row_at (rows_size * r) q a

-- by these numbers no nonterminal covers the span
pub record Nothing (full : List ℕ) : Type 0 where
  pub none : (k : ℕ) → full_in full k ≡ too_many

-- the numbers of the nonterminals below m are written for the span from i to j; all other numbers are unchanged
pub record LeastBefore (full : List ℕ) (i j m : ℕ) (tables₀ tables : List ℕ) : Type 0 where
  pub long : length tables ≡ tables_size
  pub here : (k : ℕ) → k < m → cost_in tables k i j ≡ full_in full k
  pub other : (k a b : ℕ) → a < side → b < side → ¬ ((a ≡ i) × (b ≡ j)) → cost_in tables k a b ≡ cost_in tables₀ k a b
  pub rest : (n : ℕ) → least_size ≤ n → get_or tables n 0 ≡ get_or tables₀ n 0

-- the numbers of all nonterminals are written for the span from i to j; all other numbers are unchanged
pub record LeastPut (full : List ℕ) (i j : ℕ) (tables₀ tables : List ℕ) : Type 0 where
  pub long : length tables ≡ tables_size
  pub here : (k : ℕ) → cost_in tables k i j ≡ full_in full k
  pub other : (k a b : ℕ) → a < side → b < side → ¬ ((a ≡ i) × (b ≡ j)) → cost_in tables k a b ≡ cost_in tables₀ k a b
  pub rest : (n : ℕ) → least_size ≤ n → get_or tables n 0 ≡ get_or tables₀ n 0

-- the costs of the rules below m without a child over the whole span from i to j are written; all other numbers are unchanged
pub record BaresPut (m i j : ℕ) (rows tables₀ tables : List ℕ) : Type 0 where
  pub long : length tables ≡ tables_size
  pub here : (r : ℕ) → r < m → bare_in tables i j r ≡ min (suc (get_or rows (place_at r 0 i) 0)) too_many
  pub other : (a b r : ℕ) → a < b → b < side → r < max_rules → ¬ ((a ≡ i) × (b ≡ j)) → bare_in tables a b r ≡ bare_in tables₀ a b r
  pub front : (n : ℕ) → n < bares_at → get_or tables n 0 ≡ get_or tables₀ n 0
