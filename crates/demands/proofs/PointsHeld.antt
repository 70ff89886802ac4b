-- What setting and returning give from a state that has taken u, over the chart that is filled with u: the result of opening and taking
-- what remains; and the points of a state from those of the machine. Assumes nothing.
use Prim.Native.Nat.{ℕ, zero, suc, ◌+◌, ◌-◌, ◌≤◌, ◌<◌}
use mathlib.Core.Bool.{true}
use mathlib.Core.List.{List, [], ◌∷◌, ◌++◌, map}
use mathlib.Core.Logic.{dite}
use mathlib.Core.Option.{Option, none, some}
use mathlib.Core.Path.{◌≡◌, refl, sym, ap, ◌∙◌}
use native.Mathlib.Decide.{dec_le}
use native.Mathlib.Omega.{arith}
use lib.ListN.{length, get_or, take, drop, set, replicate, length-drop, take-append-drop}
use lib.Seq.{take-append-le, length-take-le}
use borrow.Author.Tests.{le-leb, lt-leb}
use Rattle.sizes.specs.Sizes.{cells, max_input, max_points}
use Rattle.chart.specs.Column.{filled, complete}
use Rattle.chart.proofs.Truth.{filled-length}
use Rattle.theory_clearing.specs.Clearing.{cleared}
use Rattle.theory_clearing.proofs.Filled.{cleared-filled}
use Rattle.theory_points.specs.Machine.{point_up_to}
use Rattle.theory_points.proofs.Points.{Within}
use Rattle.grammar.specs.Valid.{all, valid_grammar}
use Rattle.grammar.specs.View.{Dated, grammar_of}
use Rattle.results.specs.Recognize.{hand_of, points_within}
use Rattle.results.specs.Points.{kept_point, points_up_to, set_point_in, return_in, set_point_of, return_to_of}
use Rattle.results.proofs.Goes.{set-passed, return-passed}
use Rattle.results.proofs.State.{state-taken, state-let-through}
use Rattle.demands.specs.PointsHistory.{point_number}
use Rattle.demands.proofs.Recognized.{result, after_with}

-- ---- points

pub within-numbers : (n : ℕ) (points : List (Option ℕ)) → Within n points → points_within n (map point_number points) ≡ true
unfolding points_within all
within-numbers n [] w = refl
within-numbers n (none ∷ points) w = rw (le-leb 0 (n + 1) (omega arith), within-numbers n points w)
within-numbers n (some p ∷ points) w = rw (le-leb (p + 1) (n + 1) (omega (arith, w.0)), within-numbers n points w.1)

pub set-numbers : (points : List (Option ℕ)) (k n : ℕ) → set (map point_number points) k (n + 1) ≡ map point_number (set points k (some n))
set-numbers [] k n = refl
set-numbers (p ∷ points) zero n = refl
set-numbers (p ∷ points) (suc k) n = ap (λ (l : List ℕ). point_number p ∷ l) (set-numbers points k n)

kept-number : (n : ℕ) (p : Option ℕ) → kept_point n (point_number p) ≡ point_number (point_up_to n p)
unfolding kept_point point_up_to
kept-number n none = rw (le-leb 0 (n + 1) (omega arith))
kept-number n (some p) = dite (dec_le p n)
    (λ l. let m : p + 1 ≤ n + 1 = omega arith in rw (le-leb (p + 1) (n + 1) m, le-leb p n l))
    (λ l. let o : n < p = omega arith in
    let m : n + 1 < p + 1 = omega arith in
    rw (lt-leb (p + 1) (n + 1) m, lt-leb p n o))

pub kept-numbers : (n : ℕ) (points : List (Option ℕ)) → points_up_to n (map point_number points) ≡ map point_number (map (point_up_to n) points)
kept-numbers n [] = refl
kept-numbers n (p ∷ points) = λ i. kept-number n p i ∷ kept-numbers n points i

-- ---- what the two calls give

module _ (g : Dated) (found : List ℕ) (valid : valid_grammar g.grammar ≡ true) (room : cells ≤ length found) (u points : List ℕ)
    (short : length u ≤ max_input) (within : points_within (length u) points ≡ true) (k : ℕ) where
  long : cells ≤ length (filled (grammar_of g) u found)
  long = omega (arith, filled-length (grammar_of g) u found room)

  pub set_after : k < max_points → set_point_of g.grammar (hand_of u points g.year) k (filled (grammar_of g) u found)
      ≡ after_with g found (set points k (length u + 1)) u
  unfolding set_point_in hand_of
  set_after named =
      let h = hand_of u points g.year in
      let c = filled (grammar_of g) u found in
      set-passed g.grammar h k c valid (state-let-through h short within) long named
      ∙ ap (λ (x : List ℕ). result g (set points k (length u + 1)) x (length u) c) (state-taken u points g.year)

  -- the bytes and the chart of the first p bytes
  pub return-after : (p : ℕ) → k < max_points → get_or points k 0 ≡ p + 1 → p ≤ length u
      → return_to_of g.grammar (hand_of u points g.year) k (filled (grammar_of g) u found)
      ≡ after_with g found (points_up_to p points) (take p u)
  unfolding return_in hand_of
  return-after p named e l =
      let h = hand_of u points g.year in
      let c = filled (grammar_of g) u found in
      let v = take p u in
      let n : length v ≡ p = length-take-le p u l in
      let fewer : cleared p c ≡ filled (grammar_of g) v found =
      sym (λ i. cleared (n i) (filled (grammar_of g) (take-append-drop p u i) found))
      ∙ cleared-filled (grammar_of g) v (drop p u) found (omega (arith, length-drop p u)) room in
      return-passed g.grammar h k c valid (state-let-through h short within) long p named e
      ∙ (λ i. result g (points_up_to p points) (take-append-le p u (replicate (max_input - length u) 0) l i) p (fewer i))
      ∙ ap (λ (x : ℕ). result g (points_up_to p points) v x (filled (grammar_of g) v found)) (sym n)
