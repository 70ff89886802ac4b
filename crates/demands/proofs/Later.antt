-- Which refusals may come after the checks 8 to 11: 12 and 13 only. Assumes nothing.
use Prim.Native.Nat.{ℕ, ◌<◌}
use mathlib.Core.Bool.{Bool, true, false, cond}
use mathlib.Core.List.{List}
use mathlib.Core.Option.{Option, none, some}
use mathlib.Core.Path.{◌≡◌}
use native.Mathlib.Omega.{arith}
use lib.Dec.{eqb}
use lib.IntN.{ℤ}
use lib.ListN.{length}
use Rattle.cfg.specs.Grammar.{Cfg}
use Rattle.cfg.specs.Listing.{L}
use Rattle.results.specs.Answer.{Answer, refused, answered, Handing, Figure, counted}
use Rattle.results.specs.Measure.{length_in, same_build_in}
use Rattle.results.specs.Enumerate.{Enumeration, handing_out, tree_in, figure, first_in, next_in, count_in}
use Rattle.demands.specs.Order.{OnlyLater}
use Rattle.results.proofs.Decide.{decide-cases}
use Rattle.results.proofs.Answers.{refused-inj, answered-apart}

-- a choice between 13 and an answer
larger-later : {A : Type 0} (b : Bool) (a : A) → OnlyLater (cond b (refused 13) (answered a))
larger-later true a n e = omega (arith, refused-inj e)
larger-later false a n e = absurd (answered-apart e)

-- if a derivation is handed out, nothing is refused
pub handing-refused : (o : Option (List ℕ)) (answer : Answer Handing) (chart out : List ℕ) (n : ℕ)
    → (handing_out o answer chart out).answer ≡ refused n → answer ≡ refused n
unfolding handing_out
handing-refused none answer chart out n e = e
handing-refused (some d) answer chart out n e = absurd (answered-apart e)

module _ (G : Cfg) (lengths : ℕ → ℤ) (w offered chart : List ℕ) where
  pub length-later : OnlyLater (length_in G lengths w offered chart).answer
  unfolding length_in
  length-later n =
      decide-cases _ _ (λ (x : Answer ℤ). x ≡ refused n → 11 < n) _ ((λ e p. omega (arith, refused-inj p)), tt)
      (λ p e. absurd (answered-apart e))

module _ (G : Cfg) (w a b chart : List ℕ) where
  pub same-build-later : OnlyLater (same_build_in G w a b chart).answer
  unfolding same_build_in
  same-build-later n =
      decide-cases _ _ (λ (x : Answer Bool). x ≡ refused n → 11 < n) _
      ((λ e p. omega (arith, refused-inj p)), ((λ e p. omega (arith, refused-inj p)), tt)) (λ p e. absurd (answered-apart e))

module _ (G : Cfg) (w chart : List ℕ) where
  pub count-later : OnlyLater (count_in G w chart).answer
  unfolding count_in
  count-later = let m = length (L G w) in by (eqb m 0) (tree_in G w chart) (figure m)
    where
      by : (b c : Bool) (f : Figure)
          → OnlyLater {A = Figure} (elim b [ true ↦ cond c (refused 13) (answered (counted 0)) | false ↦ answered f ])
      by true c f = larger-later c (counted 0)
      by false c f = λ n e. absurd (answered-apart e)

  pub first-later : (out : List ℕ) → OnlyLater (first_in G w chart out).answer
  unfolding first_in
  first-later out n e = larger-later (tree_in G w chart) _ n (handing-refused _ _ _ _ n e)

pub next-later : (G : Cfg) (w offered chart out : List ℕ) → OnlyLater (next_in G w offered chart out).answer
unfolding next_in
next-later G w offered chart out n =
    decide-cases _ _ (λ (x : Enumeration). x.answer ≡ refused n → 11 < n) _ ((λ f q. omega (arith, refused-inj q)), tt)
    (λ p q. absurd (answered-apart (handing-refused _ _ _ _ n q)))
