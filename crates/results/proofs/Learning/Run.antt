-- One command of a rule that is learnt, and that a run is the same for every number of commands that is large enough. Assumes nothing.
use Prim.Native.Nat.{ℕ, zero, suc, ◌+◌, ◌-◌, ◌≤◌, ◌<◌}
use native.Mathlib.Omega.{arith}
use mathlib.Core.Bool.{Bool, true, false, cond}
use mathlib.Core.List.{List, []}
use mathlib.Core.Path.{◌≡◌, refl, sym, ap, ◌∙◌}
use lib.Dec.{eqb, ltb}
use lib.ListN.{length, get_or}
use borrow.Author.Tests.{lt-ltb, le-ltb, ne_eqb}
use Rattle.laws.proofs.Bools.{clash, by-test}
use Rattle.cfg.specs.Nullable.{depth_of}
use Rattle.grammar.specs.declared.Grammar.{Grammar}
use Rattle.grammar.specs.Setters.{set_depth}
use Rattle.grammar.specs.View.{whole_of}
use Rattle.theory_tidying.specs.Tidying.{tidied}
use Rattle.results.specs.Answer.{decide}
use Rattle.results.specs.Load.{Fault, Step, operands, stop, next, done, carried_out}
use Rattle.results.specs.Learn.{learn_checks, learn_step, Joining, faulty, longer, with_depth, learn_run, enlarged}
use Rattle.results.proofs.Decide.{decide-either}

-- ---- one command

-- how a run goes on after a step, if n more commands are allowed
abbrev resume : ℕ → List ℕ → Step → Joining
resume n bytes s = elim s [ stop f ↦ faulty f | next at' g' ↦ learn_run bytes n at' g' | done g' ↦ with_depth g' ]

module _ (n : ℕ) (bytes : List ℕ) (at : ℕ) (g : Grammar) where
  pub learn-stop : (f : Fault) → learn_step bytes at g ≡ stop f → learn_run bytes (suc n) at g ≡ faulty f
  unfolding learn_run
  learn-stop f e = ap (resume n bytes) e

  pub learn-next : (at' : ℕ) (g' : Grammar) → learn_step bytes at g ≡ next at' g' → learn_run bytes (suc n) at g ≡ learn_run bytes n at' g'
  unfolding learn_run
  learn-next at' g' e = ap (resume n bytes) e

  pub learn-done : (g' : Grammar) → learn_step bytes at g ≡ done g' → learn_run bytes (suc n) at g ≡ with_depth g'
  unfolding learn_run
  learn-done g' e = ap (resume n bytes) e

-- the depth that is added is that of the grammar
pub with-depth : (g : Grammar) → with_depth g ≡ longer (set_depth g (depth_of (whole_of g)))
unfolding with_depth
with-depth g = refl

-- ---- where the bytes end, and where they do not

module _ (bytes : List ℕ) (at : ℕ) (g : Grammar) where
  pub learn-past : length bytes ≤ at → learn_step bytes at g ≡ done g
  unfolding learn_step
  learn-past h = rw (le-ltb at (length bytes) h, learn_step)

  pub learn-within : at < length bytes
      → learn_step bytes at g
      ≡ decide (learn_checks bytes at (get_or bytes at 0) g) stop (λ _. carried_out bytes at (get_or bytes at 0) g)
  unfolding learn_step
  learn-within h = rw (lt-ltb at (length bytes) h, learn_step)

  -- the next command is at a greater offset
  pub learn-forward : (at' : ℕ) (g' : Grammar) → learn_step bytes at g ≡ next at' g' → at < at'
  unfolding learn_step carried_out
  learn-forward at' g' = by-test (ltb at (length bytes))
      (λ t. rw (t, learn_step) (decide-either stop _ (λ (s : Step). s ≡ next at' g' → at < at') _ (λ f p. clash cc)
      (λ _. go (eqb (get_or bytes at 0) 0x50) (operands (get_or bytes at 0)) _)))
      (λ t. rw (t, learn_step) (λ p. clash cc))
    where
      go : (b : Bool) (n : ℕ) (h : Grammar) → cond b (done g) (next (at + 1 + n) h) ≡ next at' g' → at < at'
      go true n h p = clash cc
      go false n h p = let q : at + 1 + n ≡ at' = cc in omega arith

-- ---- the number of commands allowed

pub learn-fuel : (bytes : List ℕ) (m n at : ℕ) (g : Grammar) → length bytes - at ≤ m → length bytes - at ≤ n
    → learn_run bytes m at g ≡ learn_run bytes n at g
unfolding learn_run
learn-fuel bytes zero zero at g h k = refl
learn-fuel bytes zero (suc n) at g h k = sym (learn-done n bytes at g g (learn-past bytes at g (omega arith)))
learn-fuel bytes (suc m) zero at g h k = learn-done m bytes at g g (learn-past bytes at g (omega arith))
learn-fuel bytes (suc m) (suc n) at g h k =
    go (learn_step bytes at g) refl (λ at' g' l. learn-fuel bytes m n at' g' (omega arith) (omega arith))
  where
    go : (s : Step) → learn_step bytes at g ≡ s → ((at' : ℕ) (g' : Grammar) → at < at' → learn_run bytes m at' g' ≡ learn_run bytes n at' g')
        → learn_run bytes (suc m) at g ≡ learn_run bytes (suc n) at g
    go (stop f) e r = learn-stop m bytes at g f e ∙ sym (learn-stop n bytes at g f e)
    go (next at' g') e r =
        learn-next m bytes at g at' g' e ∙ r at' g' (learn-forward bytes at g at' g' e) ∙ sym (learn-next n bytes at g at' g' e)
    go (done g') e r = learn-done m bytes at g g' e ∙ sym (learn-done n bytes at g g' e)

-- ---- the bytes as a whole

pub enlarged-empty : (g : Grammar) → enlarged g [] ≡ faulty (record { number = 20; offset = 0 })
unfolding enlarged decide
enlarged-empty g = refl

pub enlarged-some : (g : Grammar) (bytes : List ℕ) → 0 < length bytes → enlarged g bytes ≡ learn_run bytes (length bytes) 0 (tidied g)
unfolding enlarged decide
enlarged-some g bytes h = rw (ne_eqb (length bytes) 0 (omega arith))
