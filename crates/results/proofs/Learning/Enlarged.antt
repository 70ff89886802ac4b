-- The longer grammar: what each command keeps holds of it, but for its nullable depth; it has the old rules, and one more. Assumes nothing.
use Prim.Native.Nat.{ℕ, zero, suc, ◌+◌, ◌-◌, ◌≤◌, ◌<◌}
use native.Mathlib.Decide.{dec_lt}
use native.Mathlib.Omega.{arith}
use mathlib.Core.List.{List, [], ◌∷◌}
use mathlib.Core.Logic.{dite}
use mathlib.Core.Path.{◌≡◌, refl, sym, ap, ◌∙◌, subst}
use lib.IntN.{ℤ}
use lib.ListN.{length, take, set}
use lib.Seq.{take-set-le}
use Rattle.laws.proofs.Bools.{clash}
use Rattle.cfg.specs.Nullable.{depth_of}
use Rattle.grammar.specs.declared.Rule.{Rule}
use Rattle.grammar.specs.declared.Grammar.{Grammar}
use Rattle.grammar.specs.Setters.{set_depth}
use Rattle.grammar.specs.View.{whole_of}
use Rattle.theory_tidying.specs.Tidying.{tidied}
use Rattle.results.specs.Load.{with_rule, with_place, with_name, Step, stop, next, done, carried_out}
use Rattle.results.specs.Learn.{learn_step, faulty, longer, with_depth, learn_run, enlarged}
use Rattle.results.proofs.Learning.Run.{learn-stop, learn-next, learn-done, learn-forward, with-depth, enlarged-empty, enlarged-some}
use Rattle.results.proofs.Learning.Commands.{learn-cases, LearnInvariant, learn-kept}

-- ---- the end of the bytes

module _ (bytes : List ℕ) (at : ℕ) (g : Grammar) where
  abbrev Ends : Step → Type 0
  Ends (stop f) = Unit {0}
  Ends (next at' g') = Unit {0}
  Ends (done g') = (length bytes ≤ at) × (g' ≡ g)

  step-ends : Ends (learn_step bytes at g)
  unfolding carried_out
  step-ends = learn-cases bytes at g Ends (λ f. tt) (λ l. (l, refl)) (λ e A. tt) (λ e A. tt) (λ e A. tt) (λ e A. tt) (λ e A. tt)
      (λ e A. tt)

  -- a rule ends only where the bytes end, and that changes nothing
  pub learn-ended : (g' : Grammar) → learn_step bytes at g ≡ done g' → (length bytes ≤ at) × (g' ≡ g)
  learn-ended g' e = subst Ends e step-ends

-- ---- the longer grammar

-- the grammar g' is one of which P holds at the end of the bytes, with its nullable depth
pub record LongerBy (bytes : List ℕ) (P : ℕ → Grammar → Type 0) (g' : Grammar) : Type 0 where
  pub at : ℕ
  pub read : Grammar
  pub past : length bytes ≤ at
  pub later : 0 < at
  pub holds : P at read
  pub same : g' ≡ set_depth read (depth_of (whole_of read))

module _ {bytes : List ℕ} {P : ℕ → Grammar → Type 0} (I : LearnInvariant bytes P) (some : 0 < length bytes) (g' : Grammar) where
  deepened : (at : ℕ) (g : Grammar) → P at g → length bytes ≤ at → with_depth g ≡ longer g' → LongerBy bytes P g'
  deepened at g H l e =
      let p : longer (set_depth g (depth_of (whole_of g))) ≡ longer g' = sym (with-depth g) ∙ e in
      let q : set_depth g (depth_of (whole_of g)) ≡ g' = cc in
      record { at = at; read = g; past = l; later = omega arith; holds = H; same = sym q }

  run-longer : (n at : ℕ) (g : Grammar) → length bytes - at ≤ n → P at g → learn_run bytes n at g ≡ longer g' → LongerBy bytes P g'
  unfolding learn_run
  run-longer zero at g l H e = deepened at g H (omega arith) e
  run-longer (suc n) at g l H e = go (learn_step bytes at g) refl (λ at' h k. run-longer n at' h (omega arith))
    where
      go : (s : Step) → learn_step bytes at g ≡ s
          → ((at' : ℕ) (h : Grammar) → at < at' → P at' h → learn_run bytes n at' h ≡ longer g' → LongerBy bytes P g') → LongerBy bytes P g'
      go (stop f) p later = let q : faulty f ≡ longer g' = sym (learn-stop n bytes at g f p) ∙ e in clash cc
      go (next at' h) p later =
          later at' h (learn-forward bytes at g at' h p) (learn-kept I at g H at' h p) (sym (learn-next n bytes at g at' h p) ∙ e)
      go (done h) p later =
          let (k, s) = learn-ended bytes at g h p in
          deepened at g H k (ap with_depth (sym s) ∙ sym (learn-done n bytes at g h p) ∙ e)

-- no bytes make no grammar longer
pub longer-some : (g g' : Grammar) (bytes : List ℕ) → enlarged g bytes ≡ longer g' → 0 < length bytes
longer-some g g' [] e =
    let q : faulty (record { number = 20; offset = 0 }) ≡ longer g' = sym (enlarged-empty g) ∙ e in clash cc
longer-some g g' (b ∷ bytes) e = omega arith

-- what holds of the grammar without rubbish, and is kept by each command, holds of the longer grammar but for its depth
pub enlarged-longer : {bytes : List ℕ} {P : ℕ → Grammar → Type 0} → LearnInvariant bytes P → (g g' : Grammar) → P 0 (tidied g)
    → enlarged g bytes ≡ longer g' → LongerBy bytes P g'
enlarged-longer {bytes} I g g' H e =
    let some = longer-some g g' bytes e in
    run-longer I some g' (length bytes) 0 (tidied g) (omega arith) H (sym (enlarged-some g bytes some) ∙ e)

-- ---- the rules of the longer grammar

-- the grammar h, read up to an offset, has the start symbol and the used rules of g, and from its first command on one rule more
pub record Extends (g : Grammar) (at : ℕ) (h : Grammar) : Type 0 where
  pub start : h.start ≡ g.start
  pub rules : take g.count h.rules ≡ take g.count g.rules
  pub before : at ≡ 0 → h.count ≡ g.count
  pub more : 0 < at → h.count ≡ g.count + 1

pub extends-zero : (g : Grammar) → Extends g 0 g
extends-zero g = record { start = refl; rules = refl; before = λ e. refl; more = λ z. absurd (omega arith) }

module _ (g : Grammar) where
  opened-extends : (n : ℕ) (h : Grammar) → 0 < n → Extends g 0 h → (k : ℕ) (z : ℤ) (first last : ℕ)
      → Extends g n (with_rule h k z first last)
  unfolding with_rule
  opened-extends n h p E k z first last = let c = E.before refl in record {
    start = E.start;
    rules = take-set-le g.count h.rules h.count _ (omega arith) ∙ E.rules;
    before = λ e. absurd (omega arith);
    more = λ q. omega arith;
  }

  -- the last rule is changed
  changed-extends : (at n : ℕ) (h h' : Grammar) (r : Rule) → 0 < at → 0 < n → Extends g at h → h'.start ≡ h.start
      → h'.count ≡ h.count → h'.rules ≡ set h.rules (h.count - 1) r → Extends g n h'
  changed-extends at n h h' r z p E s c e = let m = E.more z in record {
    start = s ∙ E.start;
    rules = ap (take g.count) e ∙ take-set-le g.count h.rules (h.count - 1) r (omega arith) ∙ E.rules;
    before = λ f. absurd (omega arith);
    more = λ q. c ∙ m;
  }

  pub extends-invariant : (bytes : List ℕ) → LearnInvariant bytes (Extends g)
  unfolding with_place with_name
  extends-invariant bytes = record {
    rule = λ h E l m. opened-extends 4 h (omega arith) E _ _ _ _;
    years = λ h E l y m. opened-extends 8 h (omega arith) E _ _ _ _;
    place = λ at h z E s e v m. changed-extends at _ h _ _ z (omega arith) E refl refl refl;
    name = λ at h z E o r. changed-extends at _ h _ _ z (omega arith) E refl refl refl;
  }
