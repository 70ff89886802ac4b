-- First, next and count: the answer, and what chart and output hold at the end. Assumes nothing.
use Rattle.std.specs.Prelude.{ℕ, ◌/◌, Bool, true, false, cond, List, [], ◌∷◌, ◌++◌, eqb, leb, ltb, length, drop}
use Rattle.std.proofs.Math.Option.{Option, none, some}
use Rattle.sizes.specs.Sizes.{output_size, most}
use Rattle.cfg.specs.Grammar.{Cfg}
use Rattle.cfg.specs.Listing.{L}
use Rattle.chart.specs.Column.{filled, complete}
use Rattle.grammar.specs.View.{Dated, grammar_of}
use Rattle.results.specs.Answer.{Answer, refused, answered, Handing, handed, nothing, Figure, counted, more}
use Rattle.results.specs.Answer.{Check, check, decide}
use Rattle.results.specs.Check.{same, input_checks, Checking, on_input}
use Rattle.results.specs.Measure.{unlisted}

-- what first and next give: the answer, and what chart and output hold at the end
pub record Enumeration : Type 0 where
  pub answer : Answer Handing
  pub chart : List ℕ
  pub output : List ℕ

-- 11: the output is shorter than 1,024 numbers
abbrev pub output_check : List ℕ → Check ℕ
output_check out = check (ltb (length out) output_size) 11

-- whether the input has a tree, of any size: the start symbol is in the cell of the whole input
unfoldable pub tree_in : Cfg → List ℕ → List ℕ → Bool
tree_in G w chart = complete G (length w) (filled G w chart)

-- a derivation is written to the front of the output, and the rest stays; without one the output stays as found
unfoldable pub handing_out : Option (List ℕ) → Answer Handing → List ℕ → List ℕ → Enumeration
handing_out none answer chart out = record { answer = answer; chart = chart; output = out }
handing_out (some e) answer chart out =
    record { answer = answered (handed (length e / 2)); chart = chart; output = e ++ drop (length e) out }

-- the first element, if there is one
unfoldable pub head_of : List (List ℕ) → Option (List ℕ)
head_of [] = none
head_of (e ∷ l) = some e

-- the element after e, if there is one
unfoldable pub after_in : List ℕ → List (List ℕ) → Option (List ℕ)
after_in e [] = none
after_in e (d ∷ l) = elim (same e d) [ true ↦ head_of l | false ↦ after_in e l ]

-- a call that writes an output: if it is refused, it leaves chart and output as found; else it goes on with the grammar
unfoldable pub on_output : Dated → List ℕ → List ℕ → List ℕ → (Cfg → Enumeration) → Enumeration
on_output g w chart out go =
    decide (input_checks g w chart ++ (output_check out ∷ []))
    (λ n. record { answer = refused n; chart = chart; output = out })
    (λ _. go (grammar_of g))

-- first, for the grammar G: the first of L; if L is empty: refusal 13 for an input with a tree, "no reading" for one without
unfoldable pub first_in : Cfg → List ℕ → List ℕ → List ℕ → Enumeration
first_in G w chart out =
    handing_out (head_of (L G w)) (cond (tree_in G w chart) (refused 13) (answered nothing)) (filled G w chart) out

-- first
unfoldable pub first_of : Dated → List ℕ → List ℕ → List ℕ → Enumeration
first_of g w chart out = on_output g w chart out (λ G. first_in G w chart out)

-- next, for the grammar G: the one after the offered derivation in L, or "none"; refusal 12 if what is offered is no derivation
unfoldable pub next_in : Cfg → List ℕ → List ℕ → List ℕ → List ℕ → Enumeration
next_in G w offered chart out =
    decide (check (unlisted G w offered) 12 ∷ [])
    (λ n. record { answer = refused n; chart = filled G w chart; output = out })
    (λ _. handing_out (after_in offered (L G w)) (answered nothing) (filled G w chart) out)

-- next
unfoldable pub next_of : Dated → List ℕ → List ℕ → List ℕ → List ℕ → Enumeration
next_of g w offered chart out = on_output g w chart out (λ G. next_in G w offered chart out)

-- what count says of N: N up to 4,096, "more" above
unfoldable pub figure : ℕ → Figure
figure n = cond (leb n most) (counted n) more

-- count, for the grammar G: what it says of N; refusal 13 if N is 0 and the input has a tree
unfoldable pub count_in : Cfg → List ℕ → List ℕ → Checking Figure
count_in G w chart = let n = length (L G w) in record {
  answer = elim (eqb n 0) [ true ↦ cond (tree_in G w chart) (refused 13) (answered (counted 0)) | false ↦ answered (figure n) ];
  chart = filled G w chart;
}

-- count
unfoldable pub count_of : Dated → List ℕ → List ℕ → Checking Figure
count_of g w chart = on_input g w chart (λ G. count_in G w chart)
