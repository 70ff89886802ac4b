-- The starred plates of document 01 as one table: from the bytes of a book and an input to the answers of loading, first and count, the
-- list L and the lengths; the inputs without a tree of any size; the empty book; the sums. Lengths are those of request U5 of document 02.
-- `Starred` is what is proved of the table. Assumes nothing.
use Rattle.std.specs.Prelude.{ℕ, List, [], ◌∷◌, map, ◌≡◌, ℤ, pos, neg_ℤ, replicate}
use Rattle.sizes.specs.Sizes.{cells, output_size}
use Rattle.cfg.specs.Listing.{L}
use Rattle.cfg.specs.Tree.{HasTree}
use Rattle.grammar.specs.declared.Grammar.{Grammar}
use Rattle.grammar.specs.View.{Dated, dated, grammar_of}
use Rattle.grammar.specs.Zero.{zero_grammar}
use Rattle.results.specs.Answer.{Answer, answered, Handing, handed, nothing, Figure, counted, LoadAnswer, refused_at, loaded}
use Rattle.results.specs.Load.{load_of}
use Rattle.results.specs.Measure.{length_of, rounded}
use Rattle.results.specs.Enumerate.{first_of, count_of}
use Rattle.results.specs.Drawer.{T, unit, left, pairs, nullable_pairs, empty_unit, bare, recess, As}

-- what a line of the table says of a book and an input: the answers of loading, first and count, L, and the length of each derivation in L
pub record Outcome : Type 0 where
  pub loads : LoadAnswer
  pub first : Answer Handing
  pub count : Answer Figure
  pub list : List (List ℕ)
  pub lengths : List (Answer ℤ)

-- the grammar of a book
abbrev pub grammar_from : List ℕ → Grammar
grammar_from bytes = (load_of bytes).grammar

-- the same in the year 0, as the calls on an input take it
abbrev pub dated_from : List ℕ → Dated
dated_from bytes = dated (grammar_from bytes) 0

-- the outcome of a book and an input in a year, over a chart and an output that hold other numbers
unfoldable pub outcome_in : ℕ → List ℕ → List ℕ → Outcome
outcome_in y bytes w =
    let g = dated (grammar_from bytes) y in
    let chart : List ℕ = replicate cells 7 in
    record {
      loads = (load_of bytes).answer;
      first = (first_of g w chart (replicate output_size 9)).answer;
      count = (count_of g w chart).answer;
      list = L (grammar_of g) w;
      lengths = map (λ e. (length_of g w e chart).answer) (L (grammar_of g) w);
    }

-- the same in the year 0
abbrev pub outcome : List ℕ → List ℕ → Outcome
outcome = outcome_in 0

-- a line of the table: a book, a year, an input, and their outcome
pub record Line : Type 0 where
  pub bytes : List ℕ
  pub year : ℕ
  pub input : List ℕ
  pub gives : Outcome

-- the outcome of a line's book and input in its year
abbrev pub line_outcome : Line → Outcome
line_outcome l = outcome_in l.year l.bytes l.input

-- a line whose input has derivations: the nodes of the first, how many there are, the list, and the lengths in tenths
unfoldable pub found_in : ℕ → List ℕ → List ℕ → ℕ → ℕ → List (List ℕ) → List ℤ → Line
found_in y bytes w nodes n list lengths = record {
  bytes = bytes;
  year = y;
  input = w;
  gives = record {
    loads = loaded;
    first = answered (handed nodes);
    count = answered (counted n);
    list = list;
    lengths = map answered lengths;
  };
}

-- a line whose input has no tree
unfoldable pub absent_in : ℕ → List ℕ → List ℕ → Line
absent_in y bytes w = record {
  bytes = bytes;
  year = y;
  input = w;
  gives = record { loads = loaded; first = answered nothing; count = answered (counted 0); list = []; lengths = [] };
}

-- both in the year 0
abbrev pub found : List ℕ → List ℕ → ℕ → ℕ → List (List ℕ) → List ℤ → Line
found = found_in 0

abbrev pub absent : List ℕ → List ℕ → Line
absent = absent_in 0

-- n lengths of zero
abbrev pub zeros : ℕ → List ℤ
zeros n = replicate n (pos 0)

-- the table, in document 01's order
unfoldable pub table : List Line
table =
    found T (As 1) 3 2 ((1 ∷ 0 ∷ 0 ∷ 1 ∷ 1 ∷ 2 ∷ []) ∷ (1 ∷ 0 ∷ 1 ∷ 2 ∷ 0 ∷ 1 ∷ []) ∷ []) (pos 462 ∷ pos 462 ∷ [])
    ∷ found T (As 2) 3 1 ((2 ∷ 0 ∷ 1 ∷ 2 ∷ 1 ∷ 2 ∷ []) ∷ []) (pos 465 ∷ [])
    ∷ absent T (As 3)
    ∷ absent T (0x42 ∷ [])
    ∷ found unit (As 1) 1 1 ((1 ∷ 1 ∷ []) ∷ []) (zeros 1)
    ∷ found left (As 3) 3 1 ((3 ∷ 0 ∷ 2 ∷ 0 ∷ 1 ∷ 1 ∷ []) ∷ []) (zeros 1)
    ∷ found pairs (As 3) 5 2
    ((3 ∷ 0 ∷ 1 ∷ 1 ∷ 2 ∷ 0 ∷ 1 ∷ 1 ∷ 1 ∷ 1 ∷ []) ∷ (3 ∷ 0 ∷ 2 ∷ 0 ∷ 1 ∷ 1 ∷ 1 ∷ 1 ∷ 1 ∷ 1 ∷ []) ∷ []) (zeros 2)
    ∷ found nullable_pairs (As 1) 1 1 ((1 ∷ 1 ∷ []) ∷ []) (zeros 1)
    ∷ found empty_unit (As 1) 2 1 ((1 ∷ 0 ∷ 0 ∷ 2 ∷ []) ∷ []) (zeros 1)
    ∷ absent bare (As 1)
    ∷ found recess (As 1) 1 1 ((1 ∷ 0 ∷ []) ∷ []) (neg_ℤ (pos 2) ∷ [])
    ∷ []

-- what is proved of the starred plates
pub record Starred : Type 0 where
  -- every line comes out as the table says
  pub lines : map line_outcome table ≡ map (λ (l : Line). l.gives) table
  -- where the table says "no reading", the input has no tree of any size
  pub no_tree_three : HasTree (grammar_of (dated_from T)) (As 3) → ⊥
  pub no_tree_other : HasTree (grammar_of (dated_from T)) (0x42 ∷ []) → ⊥
  pub no_tree_rules : HasTree (grammar_of (dated_from bare)) (As 1) → ⊥
  -- the empty book: 1 at offset 0
  pub no_bytes : load_of [] ≡ record { answer = refused_at 1 0; grammar = zero_grammar }
  -- the sums of document 02, and 24, in tenths
  pub sums : (rounded (pos 4625) ≡ pos 462) × (rounded (pos 4635) ≡ pos 464) × (rounded (pos 5) ≡ pos 0)
      × (rounded (neg_ℤ (pos 25)) ≡ neg_ℤ (pos 2)) × (rounded (pos 24) ≡ pos 2)
