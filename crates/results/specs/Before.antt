-- Same build as document 01 says it: the rules agree as a bag, their order ignored. Request U7 of document 02 supersedes it. The table and
-- the theorem that compare the two meanings cite this file; no code does. Assumes nothing.
use Rattle.std.specs.Prelude.{ℕ, suc, Bool, cond, List, [], ◌∷◌, ◌++◌, eqb}
use Rattle.cfg.specs.Grammar.{Cfg}
use Rattle.chart.specs.Column.{filled}
use Rattle.grammar.specs.Valid.{all}
use Rattle.grammar.specs.View.{Dated}
use Rattle.results.specs.Answer.{refused, answered, check, decide}
use Rattle.results.specs.Check.{Checking, on_input}
use Rattle.results.specs.Measure.{unlisted, rules_used}

-- how often a number is in a list
unfoldable pub occurrences : ℕ → List ℕ → ℕ
occurrences r [] = 0
occurrences r (s ∷ l) = cond (eqb r s) (suc (occurrences r l)) (occurrences r l)

-- two lists agree as bags: each number is in one as often as in the other
unfoldable pub same_bag : List ℕ → List ℕ → Bool
same_bag x y = all (λ r. eqb (occurrences r x) (occurrences r y)) (x ++ y)

-- the rules of the nodes that cover something agree as bags
abbrev pub same_bag_built : List ℕ → List ℕ → Bool
same_bag_built a b = same_bag (rules_used a) (rules_used b)

-- same build as it was, for the grammar G
unfoldable pub same_bag_build_in : Cfg → List ℕ → List ℕ → List ℕ → List ℕ → Checking Bool
same_bag_build_in G w a b chart = record {
  answer = decide (check (unlisted G w a) 12 ∷ check (unlisted G w b) 12 ∷ []) refused (λ _. answered (same_bag_built a b));
  chart = filled G w chart;
}

-- same build as it was
unfoldable pub same_bag_build_of : Dated → List ℕ → List ℕ → List ℕ → List ℕ → Checking Bool
same_bag_build_of g w a b chart = on_input g w chart (λ G. same_bag_build_in G w a b chart)
