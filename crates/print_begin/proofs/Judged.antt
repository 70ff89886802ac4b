-- The first line that is due for an input and a valid grammar: refusal 9, or what is due over the filled chart. Assumes nothing.
use Prim.Native.Nat.{ℕ, suc, ◌≤◌}
use mathlib.Core.Bool.{true, true≢false, cond}
use mathlib.Core.List.{List, [], ◌∷◌, ◌++◌, map}
use mathlib.Core.Path.{◌≡◌, refl, sym, ap, ap₂, subst, ◌∙◌}
use native.Mathlib.Omega.{arith}
use lib.IntN.{ℤ}
use Rattle.std.specs.Prelude.{Ok, Err}
use lib.ListN.{length, take, replicate, length-map, length-replicate}
use Rattle.sizes.specs.Sizes.{max_rules, max_input, cells, most}
use Rattle.cfg.specs.Listing.{L}
use Rattle.chart.specs.Column.{complete}
use Rattle.chart.proofs.Truth.{filled-length}
use Rattle.check_length.specs.Measure.{lengths_in, length_of_rule}
use Rattle.check_length.proofs.Lengths.{tenths-row}
use Rattle.theory_costs.specs.Span.{bytes_of}
use Rattle.first.proofs.Chart.{Filling, filled-chart}
use Rattle.grammar.specs.declared.Grammar.{Grammar}
use Rattle.grammar.specs.Valid.{valid_grammar}
use Rattle.grammar.specs.View.{Dated, dated, grammar_of, lengths_of}
use Rattle.grammar.proofs.Bounds.{valid-bounded}
use Rattle.answers.specs.declared.Refusal.{Refusal}
use Rattle.answers.specs.Number.{number_of}
use Rattle.packed.specs.Packed.{cfg_in}
use Rattle.fill_input.specs.Judging.{Judging, invalid, long_input, no_room}
use Rattle.fill_input.proofs.Judging.{judged-ready}
use Rattle.fill_input.proofs.Packing.{list-packed}
use Rattle.results.specs.Check.{input_check}
use Rattle.results.specs.Enumerate.{tree_in, figure}
use Rattle.results.specs.Measure.{tenths_of}
use Rattle.results.proofs.Decide.{decide-first, decide-passed}
use Rattle.results.proofs.Demand3.Decided.{tree_in-choice, tree-decided}
use Rattle.results.proofs.Passed.{input-fails, input-passes}
use Rattle.table_layout.specs.Exact.{ChartTrue}
use Rattle.text.specs.Line.{line, refused_line, no_reading_line, readings_line}
use Rattle.text.specs.Text.{lines_from, list_text, empty_text, text_by, input_text}
use Rattle.print_begin.specs.declared.Due.{Due}
use Rattle.print_begin.specs.declared.Due.TheVariants.{Refusal as RefusalDue}
use Rattle.print_begin.specs.Due.{Ahead, DueSized}
use Rattle.print_begin.specs.Begun.{FilledBegun, InputBegun}

-- ---- a check that fails is 9

module _ (g : Grammar) (y : ℕ) (w chart : List ℕ) (valid : valid_grammar g ≡ true) (room : cells ≤ length chart) where
  -- of the three checks only 9 can fail
  nine : {r : Refusal} → Judging g (length w) (length chart) (Err r) → (number_of r ≡ 9) × ((input_check w).fails ≡ true)
  nine (invalid v) = absurd (true≢false (sym valid ∙ v))
  nine (long_input v l) = (refl, input-fails w l)
  nine (no_room v b l) = absurd (omega arith)

  pub input-refused : (r : Refusal) → Judging g (length w) (length chart) (Err r) → (d : Due) → d ≡ RefusalDue (number_of r) → DueSized d
      → (p : List ℕ) (lengths : List ℤ) → length lengths ≡ max_rules → (fits tables buf : List ℕ)
      → InputBegun (dated g y) w p lengths chart chart fits tables buf buf d
  unfolding input_text
  input-refused r judging d is sized p lengths rows fits tables buf =
      let (number, fails) = nine judging in
      let f : d ≡ RefusalDue 9 = is ∙ ap RefusalDue number in
      record {
        rows = rows;
        chart_long = refl;
        long = refl;
        sized = sized;
        ahead = rw f (decide-first _ _ [] (input_check w) [] tt fails);
      }

-- ---- the text by the lengths of the rules

module _ (f h : ℕ → ℤ) (same : (e : List ℕ) → tenths_of f e ≡ tenths_of h e) where
  lines_same : (place : ℕ) (l : List (List ℕ)) → lines_from f place l ≡ lines_from h place l
  unfolding lines_from
  lines_same place [] = refl
  lines_same place (e ∷ l) = ap₂ ◌∷◌ (ap (line place e) (same e)) (lines_same (suc place) l)

  text_same : (x l : List (List ℕ)) → text_by f x l ≡ text_by h x l
  unfolding text_by list_text
  text_same x [] = refl
  text_same x (e ∷ l) =
      ap (λ (y : List (List ℕ)). y ++ (readings_line (figure (length (e ∷ l))) ∷ [])) (lines_same 1 (take most (e ∷ l)))

-- ---- the checks are passed

-- without a derivation the line is the same over every chart that is long enough
empty-any : (g : Dated) → valid_grammar g.grammar ≡ true → (w : List ℕ) → length w ≤ max_input → (chart : List ℕ) → cells ≤ length chart
    → cond (tree_in (grammar_of g) w chart) (refused_line 13) no_reading_line ∷ [] ≡ empty_text (grammar_of g) w
unfolding empty_text
empty-any g valid w short chart room =
    let tree = tree-decided (grammar_of g) (valid-bounded g valid) w short in
    ap (λ (x : List ℕ). x ∷ [])
    (tree_in-choice (grammar_of g) (valid-bounded g valid) w short chart room tree (refused_line 13) no_reading_line
    ∙ sym (tree_in-choice (grammar_of g) (valid-bounded g valid) w short (replicate cells 0)
    (omega (arith, length-replicate {A = ℕ} cells 0)) tree (refused_line 13) no_reading_line))

module _ (g : Grammar) (y : ℕ) (w chart : List ℕ) (u : Unit {0}) (judging : Judging g (length w) (length chart) (Ok u))
    (p chart' : List ℕ) (filling : Filling g y p w chart chart') where
  -- what is required of the filled chart
  pub judged-filled : (length w ≤ max_input) × (cells ≤ length chart') × ChartTrue p (bytes_of w) chart' (length w)
  judged-filled = filled-chart g y p w chart chart' (judged-ready judging) filling

  module _ (s : ℕ) (start : s ≡ g.start) (l : List ℤ) (lengths : l ≡ map length_of_rule g.rules) where
    empty-same : cond (complete (cfg_in s p) (length w) chart') (refused_line 13) no_reading_line ∷ [] ≡ empty_text (grammar_of (dated g y)) w
    unfolding tree_in complete cfg_in
    empty-same =
        let (v, a, b) = judged-ready judging in
        rw (filling.0, start) (empty-any (dated g y) v w a chart b)

    text-over : text_by (lengths_in l) (cond (complete (cfg_in s p) (length w) chart') (refused_line 13) no_reading_line ∷ []) (L (cfg_in s p) w)
        ≡ input_text (dated g y) w
    unfolding input_text
    text-over =
        let (v, a, b) = judged-ready judging in
        text_same (lengths_in l) (lengths_of g) (tenths-row g l lengths) _ _
        ∙ ap₂ (text_by (lengths_of g)) empty-same (list-packed g y p w filling.1 s start)
        ∙ sym (decide-passed _ _ (input_check w ∷ []) (input-passes w a, tt))

    pub input-begun : length g.rules ≡ max_rules → (fits tables buf₀ buf : List ℕ) (d : Due)
        → FilledBegun p s w chart' fits tables buf₀ buf d
        → InputBegun (dated g y) w p l chart chart' fits tables buf₀ buf d
    input-begun full fits tables buf₀ buf d F =
        let (v, a, b) = judged-ready judging in
        record {
          rows = ap length lengths ∙ length-map g.rules length_of_rule ∙ full;
          chart_long = ap length filling.0 ∙ filled-length (grammar_of (dated g y)) w chart b;
          long = F.long;
          sized = F.sized;
          ahead = subst (Ahead (lengths_in l) p fits chart' tables buf d) text-over (F.ahead (lengths_in l));
        }
