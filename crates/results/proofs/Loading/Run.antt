-- One command of a run, and that a run is the same for every number of commands that is large enough. Assumes nothing.
use Prim.Native.Nat.{ℕ, zero, suc, ◌+◌, ◌-◌, ◌≤◌, ◌<◌}
use native.Mathlib.Omega.{arith}
use mathlib.Core.Bool.{Bool, true, false, cond}
use mathlib.Core.List.{List}
use mathlib.Core.Path.{◌≡◌, refl, sym, ap, ◌∙◌}
use lib.Dec.{eqb}
use lib.ListN.{length, get_or}
use borrow.Author.Tests.{le-ltb}
use Rattle.laws.proofs.Bools.{clash}
use Rattle.grammar.specs.declared.Grammar.{Grammar}
use Rattle.results.specs.Answer.{decide}
use Rattle.results.specs.Load.{Loading, Fault, Step, operands, stop, next, done, carried_out, step, run, refused_load, accepted_load}
use Rattle.results.proofs.Decide.{decide-either}

-- ---- one command

-- how a run goes on after a step, if n more commands are allowed
abbrev resume : ℕ → List ℕ → Step → Loading
resume n bytes s = elim s [ stop f ↦ refused_load f | next at' g' ↦ run bytes n at' g' | done g' ↦ accepted_load g' ]

module _ (n : ℕ) (bytes : List ℕ) (at : ℕ) (g : Grammar) where
  pub run-stop : (f : Fault) → step bytes at g ≡ stop f → run bytes (suc n) at g ≡ refused_load f
  unfolding run
  run-stop f e = ap (resume n bytes) e

  pub run-next : (at' : ℕ) (g' : Grammar) → step bytes at g ≡ next at' g' → run bytes (suc n) at g ≡ run bytes n at' g'
  unfolding run
  run-next at' g' e = ap (resume n bytes) e

  pub run-done : (g' : Grammar) → step bytes at g ≡ done g' → run bytes (suc n) at g ≡ accepted_load g'
  unfolding run
  run-done g' e = ap (resume n bytes) e

-- ---- the number of commands allowed

-- a step past the end of the book is fault 1
pub step_past : (bytes : List ℕ) (at : ℕ) (g : Grammar) → length bytes ≤ at
    → step bytes at g ≡ stop (record { number = 1; offset = length bytes })
unfolding step decide
step_past bytes at g h = rw (le-ltb at (length bytes) h)

-- the next command is at a greater offset
pub step-forward : (bytes : List ℕ) (at : ℕ) (g : Grammar) (at' : ℕ) (g' : Grammar) → step bytes at g ≡ next at' g' → at < at'
unfolding step carried_out
step-forward bytes at g at' g' = decide-either stop _ (λ (s : Step). s ≡ next at' g' → at < at') _ (λ f p. clash cc)
    (λ _. go (eqb (get_or bytes at 0) 0x50) (operands (get_or bytes at 0)) _)
  where
    go : (b : Bool) (n : ℕ) (h : Grammar) → cond b (done g) (next (at + 1 + n) h) ≡ next at' g' → at < at'
    go true n h p = clash cc
    go false n h p = let q : at + 1 + n ≡ at' = cc in omega arith

pub run-fuel : (bytes : List ℕ) (m n at : ℕ) (g : Grammar) → length bytes - at ≤ m → length bytes - at ≤ n
    → run bytes m at g ≡ run bytes n at g
unfolding run
run-fuel bytes zero zero at g h k = refl
run-fuel bytes zero (suc n) at g h k = sym (run-stop n bytes at g _ (step_past bytes at g (omega arith)))
run-fuel bytes (suc m) zero at g h k = run-stop m bytes at g _ (step_past bytes at g (omega arith))
run-fuel bytes (suc m) (suc n) at g h k = go (step bytes at g) refl (λ at' g' l. run-fuel bytes m n at' g' (omega arith) (omega arith))
  where
    go : (s : Step) → step bytes at g ≡ s → ((at' : ℕ) (g' : Grammar) → at < at' → run bytes m at' g' ≡ run bytes n at' g')
        → run bytes (suc m) at g ≡ run bytes (suc n) at g
    go (stop f) e r = run-stop m bytes at g f e ∙ sym (run-stop n bytes at g f e)
    go (next at' g') e r =
        run-next m bytes at g at' g' e ∙ r at' g' (step-forward bytes at g at' g' e) ∙ sym (run-next n bytes at g at' g' e)
    go (done g') e r = run-done m bytes at g g' e ∙ sym (run-done n bytes at g g' e)
