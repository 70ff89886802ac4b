-- The chart (document 01: sheet) and its cells (words), and when the places of a rule cut a span (stretch) into pieces. Assumes nothing.
use Rattle.std.specs.Prelude.{ℕ, zero, suc, ◌+◌, ◌*◌, ◌-◌, Bool, true, false, ◌&&◌, ◌||◌, List, [], ◌∷◌, eqb, ltb, length, get_or}
use Rattle.std.proofs.Math.Option.{Option, none, some}
use Rattle.sizes.specs.Sizes.{side}
use Rattle.sets.specs.Set.{has, insert}
use Rattle.cfg.specs.Grammar.{Rule, Symbol, nonterminal, terminal, Terminal, fits}

-- the index of the cell of the span from i to j
abbrev pub index : ℕ → ℕ → ℕ
index i j = side * i + j

-- the set of nonterminals in the cell of the span from i to j
abbrev pub cell : List ℕ → ℕ → ℕ → ℕ
cell chart i j = get_or chart (index i j) 0

-- which terminals fit the byte at a position
abbrev pub Fit : Type 0
Fit = ℕ → Terminal → Bool

-- whether the byte at position i of the input fits a terminal: a chart depends on the input only through this
unfoldable pub fits_at : List ℕ → ℕ → Terminal → Bool
fits_at w i t = ltb i (length w) && fits t (get_or w i 0)

-- whether a symbol covers the span from a to b: a terminal covers one byte that fits it, a nonterminal each span whose cell has it
unfoldable pub piece : Fit → (ℕ → ℕ → ℕ) → Symbol → ℕ → ℕ → Bool
piece fit sets (nonterminal k) a b = has k (sets a b)
piece fit sets (terminal t) a b = eqb b (suc a) && fit a t

-- whether the test holds at one of the n + 1 numbers from a on
unfoldable pub some_from : ℕ → ℕ → (ℕ → Bool) → Bool
some_from a zero test = test a
some_from a (suc n) test = test a || some_from (suc a) n test

-- whether the places cut the span from a to n into pieces, one for each place; the rest is tried only after a first piece that fits
unfoldable pub cuts : Fit → (ℕ → ℕ → ℕ) → List Symbol → ℕ → ℕ → Bool
cuts fit sets [] a n = eqb a n
cuts fit sets (s ∷ places) a n =
    some_from a (n - a) (λ b. elim (piece fit sets s a b) [ true ↦ cuts fit sets places b n | false ↦ false ])

-- the set of the left sides of those rules whose places cut the span from a to n
unfoldable pub derived : Fit → (ℕ → ℕ → ℕ) → List (Option Rule) → ℕ → ℕ → ℕ
derived fit sets [] a n = 0
derived fit sets (none ∷ rules) a n = derived fit sets rules a n
derived fit sets (some ρ ∷ rules) a n =
    elim (cuts fit sets ρ.places a n) [ true ↦ insert ρ.left (derived fit sets rules a n) | false ↦ derived fit sets rules a n ]
