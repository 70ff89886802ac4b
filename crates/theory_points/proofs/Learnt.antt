-- What the machine must give in examples with learning, each proved by computing it. The grammar is that of book T:
-- 0 → 1 1, 1 → nothing, 1 → A. Assumes nothing.
use Prim.Native.Nat.{ℕ}
use mathlib.Core.List.{List, [], ◌∷◌, ◌++◌, map}
use mathlib.Core.Option.{none, some}
use mathlib.Core.Path.{◌≡◌, refl}
use lib.ListN.{take, replicate}
use Rattle.grammar.specs.declared.Grammar.{Grammar}
use Rattle.theory_tidying.specs.Tidying.{tidied_rule, tidied}
use Rattle.results.specs.Load.{load_of}
use Rattle.results.specs.Learn.{misplaced, learn_checks, learn_step, with_depth, learn_run, enlarged}
use Rattle.results.specs.Drawer.{T, new_rule, nonterminal_place, A, name_rule, padded, close}
use Rattle.results.proofs.Computing.{computing}
use Rattle.theory_points.specs.Machine.{take_byte, set_point, return_to, learn, Remaining, begun, refused_by}
use Rattle.theory_points.specs.Machine.{point_up_to, returned, moved, remainder, remains_after}

unfoldable running : Unit {0}
unfolding tidied_rule tidied misplaced learn_checks learn_step with_depth learn_run enlarged point_up_to returned moved remainder remains_after
running = tt

-- what remains after T is opened in the year 0
abbrev opened : Remaining
opened = begun (load_of T).grammar 0

-- 0 → 1, with the name Q
abbrev rule_q : List ℕ
rule_q = new_rule 0 (nonterminal_place 1 (name_rule (padded (0x51 ∷ [])) []))

-- T with a rule before its 50
abbrev with_rule : List ℕ → Grammar
with_rule bytes = (load_of (take 20 T ++ (bytes ++ close))).grammar

-- a rule learnt between two bytes: the grammar is that of the book with the rule; the bytes and the point remain
pub learnt-kept : remains_after (take_byte 0x41 ∷ set_point 2 ∷ learn rule_q ∷ take_byte 0x42 ∷ []) opened
    ≡ record {
      grammar = with_rule rule_q;
      year = 0;
      bytes = 0x41 ∷ 0x42 ∷ [];
      points = replicate 2 none ++ (some 1 ∷ replicate 5 none);
    }
unfolding computing running
learnt-kept = refl

-- a refused rule, with the offset of its fault: no bytes, 50 alone, a second rule, a rule cut short, an unknown byte, a second name
pub refused-at : map (λ (bytes : List ℕ). moved (learn bytes) opened) (
    []
    ∷ close
    ∷ (rule_q ++ new_rule 1 [])
    ∷ new_rule 0 (0x30 ∷ [])
    ∷ new_rule 0 (A (0x70 ∷ []))
    ∷ (rule_q ++ name_rule (padded (0x52 ∷ [])) [])
    ∷ []
    )
    ≡ refused_by 20 0 ∷ refused_by 20 0 ∷ refused_by 20 15 ∷ refused_by 1 5 ∷ refused_by 2 6 ∷ refused_by 3 15 ∷ []
unfolding computing running
refused-at = refl

-- a name is compared with that of a learnt rule too; a refused rule changes nothing, and a return keeps what was learnt
pub learnt-twice : (moved (learn (new_rule 1 (name_rule (padded (0x51 ∷ [])) []))) (remains_after (learn rule_q ∷ []) opened) ≡ refused_by 17 4)
    × (remains_after (set_point 0 ∷ learn rule_q ∷ take_byte 0x41 ∷ learn rule_q ∷ return_to 0 ∷ []) opened
    ≡ remains_after (learn rule_q ∷ set_point 0 ∷ []) opened)
unfolding computing running
learnt-twice = (refl, refl)
