-- Opening, taking, points and the calls on an input: of the refusals 8 to 11, 14, 15 and 19 the first that applies is given, and none
-- without a cause. Assumes nothing.
use Prim.Native.Nat.{ℕ, ◌≤◌, ◌<◌}
use mathlib.Core.Bool.{true, not, or-true}
use mathlib.Core.List.{List}
use mathlib.Core.Logic.{◌⊎◌, inl, inr, dite}
use mathlib.Core.Path.{◌≡◌, refl, sym, ap, ◌∙◌}
use native.Mathlib.Decide.{dec_le}
use native.Mathlib.Omega.{arith}
use lib.Dec.{eqb, ltb, leb}
use lib.ListN.{length, get_or}
use borrow.Author.Tests.{not-true, ltb-true, leb-true, eqb-true, lt-ltb, le-leb, lt-leb, eq-eqb}
use Rattle.sizes.specs.Sizes.{max_input, max_points, cells, output_size}
use Rattle.cfg.specs.Grammar.{Cfg}
use Rattle.grammar.specs.declared.Grammar.{Grammar}
use Rattle.grammar.specs.Valid.{valid_grammar}
use Rattle.grammar.specs.View.{Dated, grammar_of}
use Rattle.results.specs.Answer.{check}
use Rattle.results.specs.Recognize.{State, Recognition, grammar_check, state_check, open_in, open_of, take_in, take_of}
use Rattle.results.specs.Points.{point_check, set_point_in, return_in, set_point_of, return_to_of}
use Rattle.results.specs.Check.{input_check, Checking, on_input, check_in, check_of}
use Rattle.results.specs.Measure.{length_of, same_build_of}
use Rattle.results.specs.Enumerate.{Enumeration, on_output, first_of, next_of, count_of}
use Rattle.demands.specs.Cause.{cause}
use Rattle.demands.specs.Order.{cause8, cause9, cause14, cause19_point, NoRefusal, OnlyLater, OpenOrder, TakeOrder}
use Rattle.demands.specs.Order.{SetOrder, ReturnOrder, InputOrder, OutputOrder}
use Rattle.results.proofs.Answers.{answered-apart}
use Rattle.results.proofs.State.{state-refused, refused-state}
use Rattle.demands.proofs.Decided.{Tells, decided}
use Rattle.demands.proofs.Later.{length-later, same-build-later, count-later, first-later, next-later}

-- ---- each check tells its cause

pub less : (a b n : ℕ) → Tells (check (ltb a b) n) (cause (a < b) n)
less a b n = record { exact = (ltb-true a b, lt-ltb a b); same = refl }

equal : (a b n : ℕ) → Tells (check (eqb a b) n) (cause (a ≡ b) n)
equal a b n = record { exact = (eqb-true a b, eq-eqb a b); same = refl }

pub tells8 : (g : Grammar) → Tells (grammar_check g) (cause8 g)
tells8 g = record { exact = (not-true (valid_grammar g), ap not); same = refl }

pub tells9 : (w : List ℕ) → Tells (input_check w) (cause9 w)
tells9 w = less max_input (length w) 9

pub tells14 : (h : State) → Tells (state_check h) (cause14 h)
tells14 h = record { exact = (state-refused h, refused-state h); same = refl }

-- ---- opening and taking

pub open_order : (g : Dated) (chart : List ℕ) → OpenOrder g chart (open_of g chart).answer
unfolding open_of open_in
open_order g chart =
    decided _ _ (λ (x : Recognition). x.answer) NoRefusal (λ n e. answered-apart e) _ _
    (tells8 g.grammar, (less (length chart) cells 10, tt))

pub take-order : (g : Grammar) (h : State) (m : ℕ) (chart : List ℕ) → TakeOrder g h chart (take_of g h m chart).answer
unfolding take_of take_in
take-order g h m chart =
    decided _ _ (λ (x : Recognition). x.answer) NoRefusal (λ n e. answered-apart e) _ _
    (tells8 g, (tells14 h, (less (length chart) cells 10, (equal h.count max_input 15, tt))))

-- ---- points

at_least : (a b n : ℕ) → Tells (check (leb a b) n) (cause (a ≤ b) n)
at_least a b n = record { exact = (leb-true a b, le-leb a b); same = refl }

tells19 : (h : State) (k : ℕ) → Tells (point_check h k) (cause19_point h k)
tells19 h k = record { exact = (there, back); same = refl }
  where
    there : (point_check h k).fails ≡ true → (max_points ≤ k) ⊎ (get_or h.points k 0 ≡ 0)
    there e = dite (dec_le max_points k) (λ l. inl l)
        (λ l. let o : k < max_points = omega arith in
        inr (eqb-true (get_or h.points k 0) 0 (sym (rw (lt-leb max_points k o)) ∙ e)))

    back : (max_points ≤ k) ⊎ (get_or h.points k 0 ≡ 0) → (point_check h k).fails ≡ true
    back (inl l) = rw (le-leb max_points k l)
    back (inr e) = rw (eq-eqb (get_or h.points k 0) 0 e) (or-true (leb max_points k))

module _ (g : Grammar) (h : State) (k : ℕ) (chart : List ℕ) where
  pub set-order : SetOrder g h k chart (set_point_of g h k chart).answer
  unfolding set_point_of set_point_in
  set-order =
      decided _ _ (λ (x : Recognition). x.answer) NoRefusal (λ n e. answered-apart e) _ _
      (tells8 g, (tells14 h, (less (length chart) cells 10, (at_least max_points k 19, tt))))

  pub return-order : ReturnOrder g h k chart (return_to_of g h k chart).answer
  unfolding return_to_of return_in
  return-order =
      decided _ _ (λ (x : Recognition). x.answer) NoRefusal (λ n e. answered-apart e) _ _
      (tells8 g, (tells14 h, (less (length chart) cells 10, (tells19 h k, tt))))

-- ---- the calls that write no output

module _ (g : Dated) (w chart : List ℕ) where
  input-order : {A : Type 0} (go : Cfg → Checking A) → OnlyLater (go (grammar_of g)).answer
      → InputOrder g w chart (on_input g w chart go).answer
  unfolding on_input
  input-order {A} go later =
      decided _ _ (λ (x : Checking A). x.answer) OnlyLater later _ _ (tells8 g.grammar, (tells9 w, (less (length chart) cells 10, tt)))

  pub check-order : (offered : List ℕ) → InputOrder g w chart (check_of g w offered chart).answer
  unfolding check_of check_in
  check-order offered = input-order _ (λ n e. absurd (answered-apart e))

  pub length-order : (offered : List ℕ) → InputOrder g w chart (length_of g w offered chart).answer
  unfolding length_of
  length-order offered = input-order _ (length-later _ _ w offered chart)

  pub same-build-order : (a b : List ℕ) → InputOrder g w chart (same_build_of g w a b chart).answer
  unfolding same_build_of
  same-build-order a b = input-order _ (same-build-later _ w a b chart)

  pub count-order : InputOrder g w chart (count_of g w chart).answer
  unfolding count_of
  count-order = input-order _ (count-later _ w chart)

-- ---- first and next

module _ (g : Dated) (w chart out : List ℕ) where
  output-order : (go : Cfg → Enumeration) → OnlyLater (go (grammar_of g)).answer
      → OutputOrder g w chart out (on_output g w chart out go).answer
  unfolding on_output
  output-order go later =
      decided _ _ (λ (x : Enumeration). x.answer) OnlyLater later _ _
      (tells8 g.grammar, (tells9 w, (less (length chart) cells 10, (less (length out) output_size 11, tt))))

  pub first-order : OutputOrder g w chart out (first_of g w chart out).answer
  unfolding first_of
  first-order = output-order _ (first-later _ w chart out)

  pub next-order : (offered : List ℕ) → OutputOrder g w chart out (next_of g w offered chart out).answer
  unfolding next_of
  next-order offered = output-order _ (next-later _ w offered chart out)
