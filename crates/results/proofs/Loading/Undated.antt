-- A book none of whose commands is 21 gives a grammar all of whose rules hold in all years. Assumes nothing.
use Prim.Native.Nat.{ℕ, zero, suc, ◌+◌, ◌-◌}
use native.Mathlib.Numerals.{add-one}
use native.Mathlib.Omega.{arith}
use mathlib.Core.Bool.{Bool, true, false, cond}
use mathlib.Core.List.{List}
use mathlib.Core.Path.{◌≡◌, refl, subst}
use lib.Dec.{eqb}
use lib.ListN.{length, take, get_or, set}
use borrow.Author.Tests.{ne_eqb}
use Rattle.laws.proofs.Bools.{clash}
use Rattle.grammar.specs.declared.Symbol.{Symbol}
use Rattle.grammar.specs.declared.Rule.{Rule}
use Rattle.grammar.specs.declared.Grammar.{Grammar}
use Rattle.grammar.specs.Setters.{placed_rule, set_name}
use Rattle.grammar.specs.Valid.{all}
use Rattle.grammar.specs.Years.{always, all_years}
use Rattle.grammar.specs.Zero.{zero_grammar, no_rule}
use Rattle.grammar.proofs.All.{all_set, all_changed}
use Rattle.results.specs.Load.{operands, operand, given_name, open_rule, with_start, with_rule, with_place, with_name, after}
use Rattle.results.specs.Load.{Step, stop, next, done, carried_out, step, refused_load, accepted_load, run, load_of}
use Rattle.results.specs.Undated.{CommandAt, command_first, command_later, Undated}
use Rattle.results.proofs.Decide.{decide-either}
use Rattle.results.proofs.Loading.Run.{run-stop, run-next, run-done}
use Rattle.results.proofs.Loading.Commands.{step-done}

-- ---- one command

-- a last rule that is changed but for its years
last-always : (l : List Rule) (n : ℕ) (f : Rule → Rule) → ((r : Rule) → always r ≡ true → always (f r) ≡ true)
    → all always (take n l) ≡ true → all always (take n (set l (n - 1) (f (get_or l (n - 1) no_rule)))) ≡ true
unfolding all
last-always l zero f k e = refl
last-always l (suc q) f k e =
    let p : suc q - 1 ≡ q = omega arith in
    rw p (all_changed always l q f no_rule k e)

either : (b : Bool) (g h : Grammar) → all_years g ≡ true → all_years h ≡ true → all_years (cond b g h) ≡ true
either true g h p q = p
either false g h p q = q

-- each command but 21 opens no rule or one that holds in all years
after-always : (c : ℕ) (x : ℕ → ℕ) (g : Grammar) → (c ≡ 0x21 → ⊥) → all_years g ≡ true → all_years (after c x g) ≡ true
unfolding after with_start with_rule with_place with_name open_rule all_years
after-always c x g n e = rw (ne_eqb c 0x21 n)
    (either (eqb c 0x10) _ _ e (either (eqb c 0x20) _ _ (rw add-one (all_set always g.rules g.count _ e refl))
    (either (eqb c 0x30) _ _ (placed _) (either (eqb c 0x40) _ _ (placed _) (either (eqb c 0x41) _ _ (placed _)
    (either (eqb c 0x60) _ _ named e))))))
  where
    placed : (s : Symbol) → all_years (with_place g s) ≡ true
    placed s = last-always g.rules g.count (λ r. placed_rule r s) (λ r t. t) e

    named : all_years (with_name g (given_name x)) ≡ true
    named = last-always g.rules g.count (λ r. set_name r (given_name x)) (λ r t. t) e

-- ---- a book

module _ (bytes : List ℕ) (undated : Undated bytes) where
  step-always : (at : ℕ) (g : Grammar) → CommandAt bytes at → all_years g ≡ true → (at' : ℕ) (g' : Grammar)
      → step bytes at g ≡ next at' g' → CommandAt bytes at' × (all_years g' ≡ true)
  unfolding step carried_out
  step-always at g i e at' g' =
      let c = get_or bytes at 0 in
      decide-either stop _ (λ (s : Step). s ≡ next at' g' → CommandAt bytes at' × (all_years g' ≡ true)) _ (λ f p. clash cc)
      (λ _. go (eqb c 0x50) (at + 1 + operands c) (after c (operand bytes at) g) (command_later i)
      (after-always c (operand bytes at) g (undated at i) e))
    where
      go : (b : Bool) (n : ℕ) (h : Grammar) → CommandAt bytes n → all_years h ≡ true → cond b (done g) (next n h) ≡ next at' g'
          → CommandAt bytes at' × (all_years g' ≡ true)
      go true n h j a p = clash cc
      go false n h j a p =
          let q : n ≡ at' = cc in
          let r : h ≡ g' = cc in
          (subst (CommandAt bytes) q j, subst (λ (k : Grammar). all_years k ≡ true) r a)

  run-always : (n at : ℕ) (g : Grammar) → CommandAt bytes at → all_years g ≡ true → all_years (run bytes n at g).grammar ≡ true
  unfolding run refused_load accepted_load all_years all
  run-always zero at g i e = refl
  run-always (suc n) at g i e = go (step bytes at g) refl (run-always n)
    where
      go : (s : Step) → step bytes at g ≡ s
          → ((at' : ℕ) (g' : Grammar) → CommandAt bytes at' → all_years g' ≡ true → all_years (run bytes n at' g').grammar ≡ true)
          → all_years (run bytes (suc n) at g).grammar ≡ true
      go (stop f) p later = rw (run-stop n bytes at g f p) refl
      go (next at' g') p later =
          let (j, a) = step-always at g i e at' g' p in
          rw (run-next n bytes at g at' g' p) (later at' g' j a)
      go (done g') p later = rw (run-done n bytes at g g' p, (step-done bytes at g g' p).same) e

  pub undated-always : all_years (load_of bytes).grammar ≡ true
  unfolding load_of all_years all
  undated-always = run-always (length bytes) 0 zero_grammar command_first refl
