-- What each call gives once its checks 8 to 11, 14, 15 and 19 are passed: what it gives for the grammar that the struct means.
-- Assumes nothing.
use Prim.Native.Nat.{ℕ, ◌+◌, ◌-◌, ◌≤◌, ◌<◌}
use mathlib.Core.Bool.{true, false, not, or-true}
use mathlib.Core.List.{List, [], ◌∷◌}
use mathlib.Core.Path.{◌≡◌, ap, ◌∙◌}
use native.Mathlib.Omega.{arith}
use lib.Dec.{leb}
use lib.ListN.{length, get_or}
use borrow.Author.Tests.{le-ltb, le-leb, lt-leb, eq-eqb, ne_eqb}
use Rattle.sizes.specs.Sizes.{max_input, max_points, cells}
use Rattle.cfg.specs.Grammar.{Cfg}
use Rattle.grammar.specs.declared.Grammar.{Grammar}
use Rattle.grammar.specs.Valid.{valid_grammar}
use Rattle.grammar.specs.View.{Dated, dated, grammar_of}
use Rattle.results.specs.Recognize.{State, grammar_check, state_check, chart_check, open_in, open_of, take_in, take_of}
use Rattle.results.specs.Answer.{refused}
use Rattle.results.specs.Points.{name_check, point_check, set_point_in, return_in, set_point_of, return_to_of}
use Rattle.results.specs.Check.{Checking, on_input}
use Rattle.results.specs.Enumerate.{Enumeration, on_output, first_in, next_in, count_in, first_of, next_of, count_of}
use Rattle.results.specs.Ready.{Ready, ReadyOut}
use Rattle.results.proofs.Decide.{decide-first, decide-passed}
use Rattle.results.proofs.Passed.{ready→pass, ready_out→pass}

pub open-passed : (g : Dated) (chart : List ℕ) → valid_grammar g.grammar ≡ true → cells ≤ length chart
    → open_of g chart ≡ open_in (grammar_of g) g.year chart
unfolding open_of
open-passed g chart v r = decide-passed _ _ _ (ap not v, (le-ltb (length chart) cells r, tt))

pub take-passed : (g : Grammar) (h : State) (m : ℕ) (chart : List ℕ) → valid_grammar g ≡ true → (state_check h).fails ≡ false
    → h.count < max_input → cells ≤ length chart → take_of g h m chart ≡ take_in (grammar_of (dated g h.year)) h m chart
unfolding take_of
take-passed g h m chart v s l r =
    decide-passed _ _ _ (ap not v, (s, (le-ltb (length chart) cells r, (ne_eqb h.count max_input (λ e. omega arith), tt))))

module _ (g : Grammar) (h : State) (k : ℕ) (chart : List ℕ) (valid : valid_grammar g ≡ true) (state : (state_check h).fails ≡ false)
    (room : cells ≤ length chart) where
  pub set-passed : k < max_points → set_point_of g h k chart ≡ set_point_in (grammar_of (dated g h.year)) h k chart
  unfolding set_point_of
  set-passed l = decide-passed _ _ _ (ap not valid, (state, (le-ltb (length chart) cells room, (lt-leb max_points k l, tt))))

  pub return-passed : (n : ℕ) → k < max_points → get_or h.points k 0 ≡ n + 1
      → return_to_of g h k chart ≡ return_in (grammar_of (dated g h.year)) h n chart
  unfolding return_to_of
  return-passed n l e =
      let m : get_or h.points k 0 - 1 ≡ n = omega arith in
      let there : (point_check h k).fails ≡ false = rw (lt-leb max_points k l, ne_eqb (get_or h.points k 0) 0 (omega arith)) in
      decide-passed _ _ _ (ap not valid, (state, (le-ltb (length chart) cells room, (there, tt))))
      ∙ ap (λ (x : ℕ). return_in (grammar_of (dated g h.year)) h x chart) m

  -- refused as they are, with 19
  pub set-no-name : max_points ≤ k → set_point_of g h k chart ≡ record { answer = refused 19; state = h; chart = chart }
  unfolding set_point_of
  set-no-name l =
      decide-first _ _ (grammar_check g ∷ state_check h ∷ chart_check chart ∷ []) (name_check k) []
      (ap not valid, (state, (le-ltb (length chart) cells room, tt))) (le-leb max_points k l)

  pub return-no-point : get_or h.points k 0 ≡ 0 → return_to_of g h k chart ≡ record { answer = refused 19; state = h; chart = chart }
  unfolding return_to_of
  return-no-point e =
      decide-first _ _ (grammar_check g ∷ state_check h ∷ chart_check chart ∷ []) (point_check h k) []
      (ap not valid, (state, (le-ltb (length chart) cells room, tt)))
      (rw (eq-eqb (get_or h.points k 0) 0 e) (or-true (leb max_points k)))

pub on_input-passed : {A : Type 0} (g : Dated) (w chart : List ℕ) (go : Cfg → Checking A) → Ready g w chart
    → on_input g w chart go ≡ go (grammar_of g)
unfolding on_input
on_input-passed g w chart go r = decide-passed _ _ _ (ready→pass g w chart r)

pub on_output-passed : (g : Dated) (w chart out : List ℕ) (go : Cfg → Enumeration) → ReadyOut g w chart out
    → on_output g w chart out go ≡ go (grammar_of g)
unfolding on_output
on_output-passed g w chart out go r = decide-passed _ _ _ (ready_out→pass g w chart out r)

pub count-passed : (g : Dated) (w chart : List ℕ) → Ready g w chart → count_of g w chart ≡ count_in (grammar_of g) w chart
unfolding count_of
count-passed g w chart r = on_input-passed g w chart _ r

module _ (g : Dated) (w chart out : List ℕ) (r : ReadyOut g w chart out) where
  pub first-passed : first_of g w chart out ≡ first_in (grammar_of g) w chart out
  unfolding first_of
  first-passed = on_output-passed g w chart out _ r

  pub next-passed : (offered : List ℕ) → next_of g w offered chart out ≡ next_in (grammar_of g) w offered chart out
  unfolding next_of
  next-passed offered = on_output-passed g w chart out _ r
