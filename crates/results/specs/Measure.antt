-- The total length of a derivation (stack length of a reading), and whether two are the same build. Assumes nothing.
use Rattle.std.specs.Prelude.{ℕ, suc, ◌+◌, ◌/◌, ◌%◌, ◌≤◌, Bool, true, false, cond, not, List, [], ◌∷◌, ◌≡◌, eqb, ltb, ℤ, pos, negsuc, neg_ℤ, nat_abs, ◌+ℤ◌, ◌-ℤ◌, ◌*ℤ◌}
use Rattle.cfg.specs.Grammar.{Cfg}
use Rattle.cfg.specs.Listing.{L}
use Rattle.chart.specs.Column.{filled}
use Rattle.grammar.specs.View.{Dated, lengths_of}
use Rattle.results.specs.Answer.{refused, answered, check, decide}
use Rattle.results.specs.Check.{same, listed, Checking, on_input}

-- the sum of the rule lengths of all nodes of a derivation, empty ones too, in hundredths of a millimetre
unfoldable pub sum : (ℕ → ℤ) → List ℕ → ℤ
sum lengths [] = pos 0
sum lengths (cover ∷ []) = pos 0
sum lengths (cover ∷ r ∷ e) = lengths r +ℤ sum lengths e

-- the nearest tenth to n hundredths; where two are equally near, the even one
unfoldable pub nearest : ℕ → ℕ
nearest n =
    let q = n / 10 in
    cond (ltb 5 (n % 10)) (q + 1) (cond (eqb (n % 10) 5) (q + q % 2) q)

-- hundredths rounded to tenths, below zero as above it
unfoldable pub rounded : ℤ → ℤ
rounded (pos n) = pos (nearest n)
rounded (negsuc n) = neg_ℤ (pos (nearest (suc n)))

-- the length of a derivation in tenths of a millimetre, for the rule lengths by number
abbrev pub tenths_of : (ℕ → ℤ) → List ℕ → ℤ
tenths_of lengths e = rounded (sum lengths e)

-- t tenths are the nearest to z hundredths: ten times t differs from z by at most 5, and t is even where it differs by 5
pub record NearestTenth (z t : ℤ) : Type 0 where
  pub near : nat_abs (pos 10 *ℤ t -ℤ z) ≤ 5
  pub even : nat_abs (pos 10 *ℤ t -ℤ z) ≡ 5 → nat_abs t % 2 ≡ 0

-- 12: what is offered is no derivation of the input
unfoldable pub unlisted : Cfg → List ℕ → List ℕ → Bool
unlisted G w e = not (listed e (L G w))

-- length, for the grammar G and the rule lengths by number
unfoldable pub length_in : Cfg → (ℕ → ℤ) → List ℕ → List ℕ → List ℕ → Checking ℤ
length_in G lengths w offered chart = record {
  answer = decide (check (unlisted G w offered) 12 ∷ []) refused (λ _. answered (tenths_of lengths offered));
  chart = filled G w chart;
}

-- length
unfoldable pub length_of : Dated → List ℕ → List ℕ → List ℕ → Checking ℤ
length_of g w offered chart = on_input g w chart (λ G. length_in G (lengths_of g.grammar) w offered chart)

-- the rules of the nodes that cover something, in preorder
unfoldable pub rules_used : List ℕ → List ℕ
rules_used [] = []
rules_used (cover ∷ []) = []
rules_used (cover ∷ r ∷ e) = elim (eqb cover 0) [ true ↦ rules_used e | false ↦ r ∷ rules_used e ]

-- two derivations of one input are the same build: the rules of their nodes that cover something are the same, in preorder
abbrev pub same_built : List ℕ → List ℕ → Bool
same_built a b = same (rules_used a) (rules_used b)

-- same build, for the grammar G
unfoldable pub same_build_in : Cfg → List ℕ → List ℕ → List ℕ → List ℕ → Checking Bool
same_build_in G w a b chart = record {
  answer = decide (check (unlisted G w a) 12 ∷ check (unlisted G w b) 12 ∷ []) refused (λ _. answered (same_built a b));
  chart = filled G w chart;
}

-- same build
unfoldable pub same_build_of : Dated → List ℕ → List ℕ → List ℕ → List ℕ → Checking Bool
same_build_of g w a b chart = on_input g w chart (λ G. same_build_in G w a b chart)
