-- The rows of the tables that say "no reading": these inputs have no parse tree of any size. Assumes nothing.
use Prim.Native.Nat.{ℕ, ◌≤◌}
use mathlib.Core.Bool.{true, false, true≢false}
use mathlib.Core.List.{List, [], ◌∷◌}
use mathlib.Core.Path.{◌≡◌, refl, sym, ◌∙◌}
use native.Mathlib.Omega.{arith}
use lib.ListN.{length, replicate, length-replicate}
use Rattle.sizes.specs.Sizes.{cells, max_input}
use Rattle.cfg.specs.Tree.{HasTree}
use Rattle.chart.specs.Column.{filled, complete}
use Rattle.chart.proofs.Truth.{complete-tree}
use Rattle.grammar.specs.Valid.{valid_grammar}
use Rattle.grammar.specs.View.{Dated, dated, grammar_of}
use Rattle.grammar.proofs.Bounds.{valid-bounded}
use Rattle.results.specs.Drawer.{T, bare, As}
use Rattle.results.specs.Starred.{grammar_from, dated_from}
use Rattle.results.specs.YearLines.{seals, empty_in_years, start_in_years}
use Rattle.results.specs.Requests.{only_a}
use Rattle.results.proofs.Computing.{computing}

-- if the chart of an input is not complete, the input has no tree
pub incomplete-no-tree : (g : Dated) (w : List ℕ) → valid_grammar g.grammar ≡ true → length w ≤ max_input
    → complete (grammar_of g) (length w) (filled (grammar_of g) w (replicate cells 0)) ≡ false → HasTree (grammar_of g) w → ⊥
incomplete-no-tree g w valid small e tree =
    let room : cells ≤ length (replicate {A = ℕ} cells 0) = omega (arith, length-replicate {A = ℕ} cells 0) in
    let said : complete (grammar_of g) (length w) (filled (grammar_of g) w (replicate cells 0)) ≡ true =
    (complete-tree (grammar_of g) (valid-bounded g valid) w (replicate cells 0) small room).1 tree in
    true≢false (sym said ∙ e)

pub no-tree-T-AAA : HasTree (grammar_of (dated_from T)) (As 3) → ⊥
unfolding computing
no-tree-T-AAA = incomplete-no-tree (dated_from T) (As 3) refl (omega arith) refl

pub no-tree-T-B : HasTree (grammar_of (dated_from T)) (0x42 ∷ []) → ⊥
unfolding computing
no-tree-T-B = incomplete-no-tree (dated_from T) (0x42 ∷ []) refl (omega arith) refl

pub no-tree-bare : HasTree (grammar_of (dated_from bare)) (As 1) → ⊥
unfolding computing
no-tree-bare = incomplete-no-tree (dated_from bare) (As 1) refl (omega arith) refl

-- ---- the input of no bytes

pub no-tree-only_a-empty : HasTree (grammar_of (dated_from only_a)) [] → ⊥
unfolding computing
no-tree-only_a-empty = incomplete-no-tree (dated_from only_a) [] refl (omega arith) refl

pub no-tree-bare-empty : HasTree (grammar_of (dated_from bare)) [] → ⊥
unfolding computing
no-tree-bare-empty = incomplete-no-tree (dated_from bare) [] refl (omega arith) refl

-- ---- a year in which rules are out of force

pub no-tree-seals-1997 : HasTree (grammar_of (dated (grammar_from seals) 1997)) (As 1) → ⊥
unfolding computing
no-tree-seals-1997 = incomplete-no-tree (dated (grammar_from seals) 1997) (As 1) refl (omega arith) refl

pub no-tree-empty-10 : HasTree (grammar_of (dated (grammar_from empty_in_years) 10)) (As 1) → ⊥
unfolding computing
no-tree-empty-10 = incomplete-no-tree (dated (grammar_from empty_in_years) 10) (As 1) refl (omega arith) refl

pub no-tree-start-4 : HasTree (grammar_of (dated (grammar_from start_in_years) 4)) (As 1) → ⊥
unfolding computing
no-tree-start-4 = incomplete-no-tree (dated (grammar_from start_in_years) 4) (As 1) refl (omega arith) refl
