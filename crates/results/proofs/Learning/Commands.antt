-- The commands of a rule that is learnt: what their checks let through, and what a step keeps of the offset and of the grammar read so
-- far. Assumes nothing.
use Prim.Native.Nat.{ℕ, zero, suc, ◌+◌, ◌≤◌, ◌<◌}
use native.Mathlib.Omega.{arith}
use mathlib.Core.Bool.{Bool, true, false, ◌&&◌, ◌||◌}
use mathlib.Core.List.{List}
use mathlib.Core.Path.{◌≡◌, refl, sym, subst}
use lib.Dec.{eqb, ltb}
use lib.ListN.{length, get_or}
use borrow.Author.Tests.{ltb-true, ltb-false, le-leb, eqb-true, eqb-false}
use Rattle.sizes.specs.Sizes.{max_rules, max_places}
use Rattle.laws.proofs.Bools.{by-test, true-false}
use Rattle.grammar.specs.declared.Symbol.{Symbol}
use Rattle.grammar.specs.declared.Symbol.TheVariants.{Nonterminal, Terminal, Range}
use Rattle.grammar.specs.declared.Grammar.{Grammar}
use Rattle.grammar.specs.Setters.{last_year}
use Rattle.grammar.specs.Valid.{valid_symbol}
use Rattle.results.specs.Load.{operands, operand, signed, from_year, to_year, given_name, open_rule, with_rule, with_place, with_name, after}
use Rattle.results.specs.Load.{unknown, opens_rule, adds_place, open_named, refused_name, Fault, Step, stop, next, done, operand_checks}
use Rattle.results.specs.Load.{carried_out}
use Rattle.results.specs.Learn.{misplaced, learn_checks, learn_step}
use Rattle.results.proofs.Decide.{decide-either}
use Rattle.results.proofs.Loading.Commands.{each-command, kept-to, place_size, HeldIn, Invariant}
use Rattle.results.proofs.Learning.Run.{learn-past, learn-within}

-- ---- where a command may be

pub start-misplaced : (at : ℕ) → misplaced 0x10 at ≡ true
unfolding misplaced
start-misplaced at = by-test (eqb at 0) (λ e. rw e) (λ e. rw e)

pub end-misplaced : (at : ℕ) → misplaced 0x50 at ≡ true
unfolding misplaced
end-misplaced at = by-test (eqb at 0) (λ e. rw e) (λ e. rw e)

-- a command that opens a rule is first
pub opens-first : (c at : ℕ) → opens_rule c ≡ true → misplaced c at ≡ false → at ≡ 0
unfolding misplaced
opens-first c at o m = by-test (eqb at 0) (λ e. eqb-true at 0 e) (λ e. absurd (true-false refl (rw (e, o) at m)))

-- the others are not
pub others-later : (c at : ℕ) → opens_rule c ≡ false → misplaced c at ≡ false → 0 < at
unfolding misplaced
others-later c at o m =
    by-test (eqb at 0) (λ e. absurd (true-false refl (rw (e, o) at m))) (λ e. omega (arith, eqb-false at 0 e))

-- ---- what the checks let through

-- the command c at an offset, with each of its checks passed
pub record Admitted (bytes : List ℕ) (at c : ℕ) (g : Grammar) : Type 0 where
  pub begins : at < length bytes
  pub known : unknown c ≡ false
  pub placed : misplaced c at ≡ false
  pub unnamed : (eqb c 0x60 && open_named g) ≡ false
  pub whole : at + 1 + operands c ≤ length bytes
  pub nonterminal : (eqb c 0x10 || opens_rule c || eqb c 0x30) ≡ true → operand bytes at 0 ≤ 31
  pub rising : eqb c 0x41 ≡ true → operand bytes at 0 ≤ operand bytes at 1
  pub name : (eqb c 0x60 && refused_name g (given_name (operand bytes at))) ≡ false
  pub years : eqb c 0x21 ≡ true → from_year (operand bytes at) ≤ to_year (operand bytes at)
  pub rules : opens_rule c ≡ true → g.count ≤ 127
  pub places : adds_place c ≡ true → (open_rule g).count ≤ 7

module _ (bytes : List ℕ) (at : ℕ) (g : Grammar) where
  -- P holds of what the command c comes to
  abbrev Case : (Step → Type 0) → ℕ → Type 0
  Case P c = get_or bytes at 0 ≡ c → Admitted bytes at c g → P (carried_out bytes at c g)

  -- what holds of each fault, of the end of the bytes, and of each command that its checks let through, holds of a step
  pub learn-cases : (P : Step → Type 0) → ((f : Fault) → P (stop f)) → (length bytes ≤ at → P (done g)) → Case P 0x20 → Case P 0x21
      → Case P 0x30 → Case P 0x40 → Case P 0x41 → Case P 0x60 → P (learn_step bytes at g)
  unfolding learn_checks operand_checks
  learn-cases P fails ends rule years nonterminal terminal range name = by-test (ltb at (length bytes))
      (λ t. let begins = ltb-true at (length bytes) t in
      subst P (sym (learn-within bytes at g begins)) (decide-either stop _ P _ fails
      (λ p. let (known, (placed, (unnamed, (whole, (small, (rising, (unrefused, (ordered, (rules, (places, u)))))))))) = p in
      each-command (Case P)
      (λ e A. absurd (true-false (start-misplaced at) A.placed))
      rule years nonterminal terminal range
      (λ e A. absurd (true-false (end-misplaced at) A.placed))
      name (get_or bytes at 0) known refl (record {
        begins = begins;
        known = known;
        placed = placed;
        unnamed = unnamed;
        whole = ltb-false (length bytes) (at + 1 + operands (get_or bytes at 0)) whole;
        nonterminal = kept-to _ 31 (operand bytes at 0) small;
        rising = kept-to _ (operand bytes at 1) (operand bytes at 0) rising;
        name = unrefused;
        years = kept-to _ (to_year (operand bytes at)) (from_year (operand bytes at)) ordered;
        rules = kept-to _ 127 g.count rules;
        places = kept-to _ 7 (open_rule g).count places;
      }))))
      (λ t. let past = ltb-false at (length bytes) t in subst P (sym (learn-past bytes at g past)) (ends past))

-- ---- what a step keeps

-- each command that its checks let through keeps P; the first command opens the rule, and the others come later
pub record LearnInvariant (bytes : List ℕ) (P : ℕ → Grammar → Type 0) : Type 0 where
  pub rule : (g : Grammar) → P 0 g → operand bytes 0 0 ≤ 31 → g.count < max_rules
      → P 4 (with_rule g (operand bytes 0 0) (signed (operand bytes 0 1) (operand bytes 0 2)) 0 last_year)
  pub years : (g : Grammar) → P 0 g → operand bytes 0 0 ≤ 31 → from_year (operand bytes 0) ≤ to_year (operand bytes 0) → g.count < max_rules
      → P 8 (with_rule g (operand bytes 0 0) (signed (operand bytes 0 1) (operand bytes 0 2)) (from_year (operand bytes 0))
      (to_year (operand bytes 0)))
  pub place : (at : ℕ) (g : Grammar) → 0 < at → P at g → (s : Symbol) → HeldIn bytes at s → valid_symbol s ≡ true
      → (open_rule g).count < max_places → P (at + place_size s) (with_place g s)
  pub name : (at : ℕ) (g : Grammar) → 0 < at → P at g → open_named g ≡ false → refused_name g (given_name (operand bytes at)) ≡ false
      → P (at + 9) (with_name g (given_name (operand bytes at)))

module _ {bytes : List ℕ} {P : ℕ → Grammar → Type 0} (I : LearnInvariant bytes P) where
  module _ (at : ℕ) (g : Grammar) (H : P at g) where
    -- P holds of what a step goes on with
    abbrev Kept : Step → Type 0
    Kept (stop f) = Unit {0}
    Kept (next at' g') = P at' g'
    Kept (done g') = Unit {0}

    -- the first command is at 0
    abbrev Opened : ℕ → ℕ → Type 0
    Opened c at = P at g → Admitted bytes at c g → Kept (carried_out bytes at c g)

    opened : (c : ℕ) → opens_rule c ≡ true → Opened c 0 → Admitted bytes at c g → Kept (carried_out bytes at c g)
    opened c o F A = subst (Opened c) (sym (opens-first c at o A.placed)) F H A

    placed : (c : ℕ) → opens_rule c ≡ false → Admitted bytes at c g → (s : Symbol) → HeldIn bytes at s → valid_symbol s ≡ true
        → (open_rule g).count ≤ 7 → (n : ℕ) → at + place_size s ≡ n → P n (with_place g s)
    placed c o A s e v p n f = subst (λ (x : ℕ). P x (with_place g s)) f
        (I.place at g (others-later c at o A.placed) H s e v (omega arith))

    learn-holds : Kept (learn_step bytes at g)
    unfolding carried_out operands after
    learn-holds = learn-cases bytes at g Kept (λ f. tt) (λ l. tt)
        (λ e A. opened 0x20 refl (λ H₀ B. I.rule g H₀ (B.nonterminal refl) (omega (arith, B.rules refl))) A)
        (λ e A. opened 0x21 refl (λ H₀ B. I.years g H₀ (B.nonterminal refl) (B.years refl) (omega (arith, B.rules refl))) A)
        (λ e A. placed 0x30 refl A (Nonterminal (operand bytes at 0)) refl (le-leb (operand bytes at 0) 31 (A.nonterminal refl))
        (A.places refl) _ (omega arith))
        (λ e A. placed 0x40 refl A (Terminal (operand bytes at 0)) refl refl (A.places refl) _ (omega arith))
        (λ e A. placed 0x41 refl A (Range (operand bytes at 0) (operand bytes at 1)) (refl, refl)
        (le-leb (operand bytes at 0) (operand bytes at 1) (A.rising refl)) (A.places refl) _ (omega arith))
        (λ e A. subst (λ (n : ℕ). P n (with_name g (given_name (operand bytes at)))) (omega arith)
        (I.name at g (others-later 0x60 at refl A.placed) H A.unnamed A.name))

    pub learn-kept : (at' : ℕ) (g' : Grammar) → learn_step bytes at g ≡ next at' g' → P at' g'
    learn-kept at' g' e = subst Kept e learn-holds

-- ---- what each command of a book keeps

-- P holds, and a rule is open once a command has been read
abbrev pub AndOpened : (ℕ → Grammar → Type 0) → ℕ → Grammar → Type 0
AndOpened P at g = P at g × (0 < at → 0 < g.count)

-- what each command of a book keeps, each command of a learnt rule keeps too
pub learn-invariant : {bytes : List ℕ} {P : ℕ → Grammar → Type 0} → Invariant bytes P → LearnInvariant bytes (AndOpened P)
unfolding with_rule with_place with_name
learn-invariant {bytes} {P} I = record {
  rule = λ g H h m. (I.rule 0 g H.0 h m, λ z. omega arith);
  years = λ g H h y m. (I.years 0 g H.0 h y m, λ z. omega arith);
  place = λ at g z H s e v m. (I.place at g H.0 s e v (H.1 z) m, λ _. H.1 z);
  name = λ at g z H o r. (I.name at g H.0 (H.1 z) o r, λ _. H.1 z);
}
