-- Rows beyond document 01's own plates. Assumes nothing.
use Prim.Native.Nat.{ℕ, ◌-◌}
use mathlib.Core.Bool.{Bool, true, false}
use mathlib.Core.List.{List, [], ◌∷◌, ◌++◌}
use mathlib.Core.Path.{◌≡◌, refl}
use lib.IntN.{pos, neg_ℤ}
use lib.ListN.{replicate}
use Rattle.sizes.specs.Sizes.{cells}
use Rattle.grammar.specs.declared.Symbol.TheVariants.{Nonterminal, Terminal}
use Rattle.grammar.specs.declared.Place.{Place}
use Rattle.grammar.specs.declared.Rule.{Rule}
use Rattle.grammar.specs.Setters.{last_year, opened_rule, set_place_count, set_places, set_name, set_count, set_depth, set_rules, set_rule}
use Rattle.grammar.specs.View.{dated}
use Rattle.grammar.specs.Zero.{zero_place, zero_rule, zero_grammar}
use Rattle.results.specs.Answer.{Answer, answered}
use Rattle.results.specs.Load.{accepted_load, load_of}
use Rattle.results.specs.Points.{points_up_to, set_point_of}
use Rattle.results.specs.Recognize.{State, state_with, no_points, state_check, open_of, take_of}
use Rattle.results.specs.Measure.{same_build_of}
use Rattle.results.specs.Check.{check_of}
use Rattle.results.specs.Drawer.{T, start, new_rule, name_rule, nonterminal_place, A, close, As}
use Rattle.results.specs.NameLines.{body_name}
use Rattle.results.specs.Starred.{grammar_from, dated_from, outcome}
use Rattle.results.proofs.Computing.{computing}

-- 0 → 1 A (100), 1 → nothing (-30)
abbrev pub gap : List ℕ
gap = 0x10 ∷ 0x00 ∷ 0x20 ∷ 0x00 ∷ 0x64 ∷ 0x00 ∷ 0x30 ∷ 0x01 ∷ 0x40 ∷ 0x41 ∷ 0x20 ∷ 0x01 ∷ 0xE2 ∷ 0xFF ∷ 0x50 ∷ []

-- the length of an empty node counts
pub gap_length : (outcome gap (As 1)).lengths ≡ answered (pos 7) ∷ []
unfolding computing
gap_length = refl

unfoldable pub build : List ℕ → List ℕ → List ℕ → List ℕ → Answer Bool
build bytes w a b = (same_build_of (dated_from bytes) w a b (replicate cells 7)).answer

-- T, `A`: both derivations are one build, whichever place is empty
pub same-T : build T (As 1) (1 ∷ 0 ∷ 0 ∷ 1 ∷ 1 ∷ 2 ∷ []) (1 ∷ 0 ∷ 1 ∷ 2 ∷ 0 ∷ 1 ∷ []) ≡ answered true
unfolding build computing
same-T = refl

-- 0 → A, 0 → A: twin rules are two builds
pub twins-differ : build (start 0 (new_rule 0 (A (new_rule 0 (A close))))) (As 1) (1 ∷ 0 ∷ []) (1 ∷ 1 ∷ []) ≡ answered false
unfolding build computing
twins-differ = refl

-- 0 → 1 A, 1 → nothing, 1 → nothing: empty nodes do not count
pub empty-same : build (start 0 (new_rule 0 (nonterminal_place 1 (A (new_rule 1 (new_rule 1 close)))))) (As 1)
    (1 ∷ 0 ∷ 0 ∷ 1 ∷ []) (1 ∷ 0 ∷ 0 ∷ 2 ∷ []) ≡ answered true
unfolding build computing
empty-same = refl

-- 31 is a nonterminal
pub last-nonterminal : (outcome (start 31 (new_rule 31 (nonterminal_place 31 (new_rule 31 (A close))))) (As 1)).list ≡ (1 ∷ 1 ∷ []) ∷ []
unfolding computing
last-nonterminal = refl

-- the places of the first rule of `gap`, and its rules
abbrev pub gap_places : List Place
gap_places = record { symbol = Nonterminal 1 } ∷ record { symbol = Terminal 65 } ∷ replicate 6 zero_place

abbrev pub gap_rules : List Rule
gap_rules =
    set_place_count (set_places (opened_rule 0 (pos 100) 0 last_year) gap_places) 2
    ∷ opened_rule 1 (neg_ℤ (pos 30)) 0 last_year
    ∷ replicate 126 zero_rule

-- the whole of a loaded grammar: what the book does not set is zero
pub loaded-gap : (load_of gap).grammar ≡ set_depth (set_count (set_rules zero_grammar gap_rules) 2) 1
unfolding computing
loaded-gap = refl

-- 0 → A (100), in the years 1998 to 2007
abbrev pub decade : List ℕ
decade = 0x10 ∷ 0x00 ∷ 0x21 ∷ 0x00 ∷ 0x64 ∷ 0x00 ∷ 0xCE ∷ 0x07 ∷ 0xD7 ∷ 0x07 ∷ 0x40 ∷ 0x41 ∷ 0x50 ∷ []

abbrev pub decade_rule : Rule
decade_rule = set_place_count (set_places (opened_rule 0 (pos 100) 1998 2007) (record { symbol = Terminal 65 } ∷ replicate 7 zero_place)) 1

-- 21: kind, length, first year, last year, low byte first; places follow it as they follow 20
pub loaded-decade : (load_of decade).grammar ≡ set_count (set_rules zero_grammar (decade_rule ∷ replicate 127 zero_rule)) 1
unfolding computing
loaded-decade = refl

-- 0 → A A, named `BODY` between its places, and 0 → A, without a name
abbrev pub between : List ℕ
between = start 0 (new_rule 0 (A (name_rule body_name (A (new_rule 0 (A close))))))

abbrev pub As-of : ℕ → Rule
As-of n = set_place_count
    (set_places (opened_rule 0 (pos 0) 0 last_year) (replicate n (record { symbol = Terminal 65 }) ++ replicate (8 - n) zero_place)) n

-- 60: the name goes into the open rule, and places are added after it as before
pub loaded-between : (load_of between).grammar
    ≡ set_count (set_rules zero_grammar (set_name (As-of 2) body_name ∷ As-of 1 ∷ replicate 126 zero_rule)) 2
unfolding computing
loaded-between = refl

-- 0 → nothing, in force from year 5 to 6: the nullable depth is that of the whole book
pub depth-whole : (accepted_load (set_count (set_rule zero_grammar 0 (opened_rule 0 (pos 0) 5 6)) 1)).grammar.depth ≡ 1
unfolding computing
depth-whole = refl

-- points: 0 is set at the count 1, and 7 at the count 0
abbrev pub two_set : List ℕ
two_set = 2 ∷ 0 ∷ 0 ∷ 0 ∷ 0 ∷ 0 ∷ 0 ∷ 1 ∷ []

-- after a take the unused bytes of a state are zeros, whatever they were, and its year and its points are kept
unfoldable pub taken : State
taken = (take_of (grammar_from T) (state_with (65 ∷ replicate 63 9) 1 7 two_set) 66 (replicate cells 0)).state

pub taken-clean : taken ≡ state_with (65 ∷ 66 ∷ replicate 62 0) 2 7 two_set
unfolding taken computing
taken-clean = refl

-- a refused take gives back the state as it was, also unused bytes: here refusal 15
abbrev pub dirty : State
dirty = state_with (replicate 64 9) 64 7 two_set

unfoldable pub refused_take : State
refused_take = (take_of (grammar_from T) dirty 66 (replicate cells 0)).state

pub refused-take-kept : refused_take ≡ dirty
unfolding refused_take computing
refused-take-kept = refl

-- a point that is set at the count 1, from a state with rubbish in its unused bytes: these are zeros then, and the other points remain
unfoldable pub point_set : State
point_set = (set_point_of (grammar_from T) (state_with (65 ∷ replicate 63 9) 1 7 two_set) 3 (replicate cells 0)).state

pub point-set-clean : point_set ≡ state_with (65 ∷ replicate 63 0) 1 7 (2 ∷ 0 ∷ 0 ∷ 2 ∷ 0 ∷ 0 ∷ 0 ∷ 1 ∷ [])
unfolding point_set computing
point-set-clean = refl

-- a return to the count 1: the point itself, others there and those before it remain, and the points past it are gone
pub points-up-to-one : points_up_to 1 (2 ∷ 1 ∷ 3 ∷ 0 ∷ 2 ∷ 65 ∷ 0 ∷ 1 ∷ []) ≡ 2 ∷ 1 ∷ 0 ∷ 0 ∷ 2 ∷ 0 ∷ 0 ∷ 1 ∷ []
unfolding computing
points-up-to-one = refl

-- 14: a point at the count is let through, and one past it is not
pub point-at-the-count : (state_check (state_with (replicate 64 9) 1 7 two_set)).fails ≡ false
unfolding computing
point-at-the-count = refl

pub point-past-the-count : (state_check (state_with (replicate 64 9) 0 7 two_set)).fails ≡ true
unfolding computing
point-past-the-count = refl

-- a refused opening gives a state of zeros, whatever the year: here refusal 10
unfoldable pub refused_opening : State
refused_opening = (open_of (dated (grammar_from T) 7) (replicate (cells - 1) 0)).state

pub refused-opening-zeros : refused_opening ≡ state_with (replicate 64 0) 0 0 no_points
unfolding refused_opening computing
refused-opening-zeros = refl

unfoldable pub checks : List ℕ → Answer Bool
checks e = (check_of (dated_from T) (As 1) e (replicate cells 7)).answer

pub check-yes : checks (1 ∷ 0 ∷ 1 ∷ 2 ∷ 0 ∷ 1 ∷ []) ≡ answered true
unfolding checks computing
check-yes = refl

pub check-tail : checks (1 ∷ 0 ∷ 1 ∷ 2 ∷ 0 ∷ 1 ∷ 0 ∷ []) ≡ answered false
unfolding checks computing
check-tail = refl
