-- What each command of a book does to the name in a rule record, and to the number of rules. Assumes nothing.
use Prim.Native.Nat.{ℕ, zero, suc, ◌+◌, ◌-◌, ◌≤◌, ◌<◌}
use native.Mathlib.Decide.{ℕ_discrete}
use native.Mathlib.Omega.{arith}
use mathlib.Core.Bool.{Bool, true, false, cond, ◌&&◌, and-false}
use mathlib.Core.List.{List, [], ◌∷◌}
use mathlib.Core.Logic.{dite}
use mathlib.Core.Path.{◌≡◌, refl, sym, ap, ap₂, subst, ◌∙◌}
use lib.Dec.{eqb}
use lib.IntN.{ℤ}
use lib.ListN.{length, take, drop, get_or, set}
use lib.Seq.{drop-cons, get_or-set_same, get_or-set_other}
use borrow.Author.Tests.{eqb-false, eq-eqb, ne_eqb, not-false}
use Rattle.sizes.specs.Sizes.{max_rules}
use Rattle.laws.proofs.Bools.{and_both, or-neither}
use Rattle.theory_words.specs.Name.{name_size, valid_name, unnamed}
use Rattle.grammar.specs.declared.Symbol.{Symbol}
use Rattle.grammar.specs.declared.Rule.{Rule}
use Rattle.grammar.specs.declared.Grammar.{Grammar}
use Rattle.grammar.specs.Setters.{placed_rule}
use Rattle.grammar.specs.Zero.{no_rule}
use Rattle.results.specs.Load.{operands, operand, given_name, open_rule, with_start, with_rule, with_place, with_name, after, open_named}
use Rattle.results.specs.Load.{unknown, opens_rule, out_of_turn, refused_name, Step, stop, next, done, carried_out, step}
use Rattle.results.specs.Name.{names_rule, record_name}
use Rattle.results.proofs.Loading.Commands.{LetThrough, step-cases}

-- ---- the operands of 60

-- the values of a function below n
abbrev values : ℕ → (ℕ → ℕ) → List ℕ
values zero f = []
values (suc n) f = f 0 ∷ values n (λ i. f (suc i))

values_same : (n : ℕ) (f h : ℕ → ℕ) → ((i : ℕ) → f i ≡ h i) → values n f ≡ values n h
values_same n f h e = λ j. values n (λ i. e i j)

take-values : (n : ℕ) (l : List ℕ) (i : ℕ) → i + n ≤ length l → take n (drop i l) ≡ values n (λ k. get_or l (i + k) 0)
take-values zero l i h = refl
take-values (suc n) l i h =
    let e : i + 0 ≡ i = omega arith in
    ap (take (suc n)) (drop-cons l i 0 (omega arith))
    ∙ ap₂ ◌∷◌ (ap (λ (k : ℕ). get_or l k 0) (sym e))
    (take-values n l (suc i) (omega arith)
    ∙ values_same n _ _ (λ k. let s : suc i + k ≡ i + suc k = omega arith in ap (λ (m : ℕ). get_or l m 0) s))

-- they are a part of the bytes
pub given-part : (bytes : List ℕ) (at : ℕ) → at + 1 + name_size ≤ length bytes
    → given_name (operand bytes at) ≡ take name_size (drop (at + 1) bytes)
unfolding operand
given-part bytes at h = sym (take-values name_size bytes (at + 1) h)

-- ---- a rule that is set

-- what holds of the rule that is set, and of no rule, holds of what is read there
set_here : (P : Rule → Type 0) (l : List Rule) (i : ℕ) (a : Rule) → P a → P no_rule → P (get_or (set l i a) i no_rule)
set_here P [] i a p q = q
set_here P (x ∷ l) zero a p q = p
set_here P (x ∷ l) (suc i) a p q = set_here P l i a p q

set_at : (l : List Rule) (i j : ℕ) (a : Rule) → i ≡ j → j < length l → get_or (set l i a) j no_rule ≡ a
set_at l i j a e h = ap (λ (k : ℕ). get_or (set l k a) j no_rule) e ∙ get_or-set_same l j a no_rule h

-- a rule of the same name in place of one changes no name
set-name : (l : List Rule) (i j : ℕ) (a : Rule) → a.name ≡ (get_or l i no_rule).name → (get_or (set l i a) j no_rule).name ≡ (get_or l j no_rule).name
set-name [] i j a e = refl
set-name (x ∷ l) zero zero a e = e
set-name (x ∷ l) zero (suc j) a e = refl
set-name (x ∷ l) (suc i) zero a e = refl
set-name (x ∷ l) (suc i) (suc j) a e = set-name l i j a e

-- ---- one command

-- a command that is carried out: it is known, the next offset is after its operands, and the rules are counted
pub record Moved (bytes : List ℕ) (at : ℕ) (g : Grammar) (at' : ℕ) (g' : Grammar) : Type 0 where
  pub known : unknown (get_or bytes at 0) ≡ false
  pub ahead : at' ≡ at + 1 + operands (get_or bytes at 0)
  pub whole : at' ≤ length bytes
  pub rules : g'.count ≡ cond (opens_rule (get_or bytes at 0)) (g.count + 1) g.count

module _ (bytes : List ℕ) (at : ℕ) (g : Grammar) where
  abbrev Moves : Step → Type 0
  Moves (stop f) = Unit {0}
  Moves (next at' g') = Moved bytes at g at' g'
  Moves (done g') = Unit {0}

  moves : (c at' : ℕ) (g' : Grammar) → get_or bytes at 0 ≡ c → LetThrough bytes at c g → at' ≡ at + 1 + operands c
      → g'.count ≡ cond (opens_rule c) (g.count + 1) g.count → Moved bytes at g at' g'
  moves c at' g' e L a n = record { known = rw e L.known; ahead = rw e a; whole = omega (arith, L.whole); rules = rw e n }

  step-moves : Moves (step bytes at g)
  unfolding carried_out after with_start with_rule with_place with_name
  step-moves = step-cases bytes at g Moves (λ f. tt)
      (λ e L. moves 0x10 _ _ e L refl refl) (λ e L. moves 0x20 _ _ e L refl refl) (λ e L. moves 0x21 _ _ e L refl refl)
      (λ e L. moves 0x30 _ _ e L refl refl) (λ e L. moves 0x40 _ _ e L refl refl) (λ e L. moves 0x41 _ _ e L refl refl)
      (λ e L. tt) (λ e L. moves 0x60 _ _ e L refl refl)

  pub step-moved : (at' : ℕ) (g' : Grammar) → step bytes at g ≡ next at' g' → Moved bytes at g at' g'
  step-moved at' g' e = subst Moves e step-moves

-- the 60 that names rule r, which has no name: its eight operands are the name, and there is no rule more
pub record Given (bytes : List ℕ) (r at : ℕ) (g g' : Grammar) : Type 0 where
  pub names : names_rule bytes r at g ≡ true
  pub before : unnamed (record_name g r) ≡ true
  pub whole : at + 1 + name_size ≤ length bytes
  pub name : record_name g' r ≡ take name_size (drop (at + 1) bytes)
  pub valid : valid_name (record_name g' r) ≡ true
  pub count : g'.count ≡ g.count

-- what a command that is carried out does to the name of rule r: it gives it, opens the rule without one, or leaves it
pub data Renamed (bytes : List ℕ) (r at : ℕ) (g g' : Grammar) : Type 0 where
  given : Given bytes r at g g' → Renamed bytes r at g g'
  opened : names_rule bytes r at g ≡ false → r ≡ g.count → unnamed (record_name g' r) ≡ true → Renamed bytes r at g g'
  kept : names_rule bytes r at g ≡ false → record_name g' r ≡ record_name g r → g.count ≤ g'.count → Renamed bytes r at g g'

module _ (bytes : List ℕ) (r at : ℕ) (g : Grammar) (size : length g.rules ≡ max_rules) (few : g.count ≤ max_rules) where
  -- a command of another byte names no rule
  other : (c : ℕ) → eqb c 0x60 ≡ false → get_or bytes at 0 ≡ c → names_rule bytes r at g ≡ false
  other c n e = rw (e, n)

  start-renamed : (k : ℕ) → get_or bytes at 0 ≡ 0x10 → Renamed bytes r at g (with_start g k)
  unfolding with_start
  start-renamed k e = kept (other 0x10 refl e) refl (omega arith)

  rule-renamed : (c k : ℕ) (z : ℤ) (first last : ℕ) → eqb c 0x60 ≡ false → get_or bytes at 0 ≡ c
      → Renamed bytes r at g (with_rule g k z first last)
  unfolding with_rule unnamed
  rule-renamed c k z first last n e = dite (ℕ_discrete r g.count)
      (λ f. opened (other c n e) f (rw f (set_here (λ a. unnamed a.name ≡ true) g.rules g.count _ refl refl)))
      (λ f. kept (other c n e) (ap (λ (a : Rule). a.name) (get_or-set_other g.rules g.count r _ no_rule f)) (omega arith))

  place-renamed : (c : ℕ) (s : Symbol) → eqb c 0x60 ≡ false → get_or bytes at 0 ≡ c → Renamed bytes r at g (with_place g s)
  unfolding with_place open_rule
  place-renamed c s n e = kept (other c n e) (set-name g.rules (g.count - 1) r (placed_rule (open_rule g) s) refl) (omega arith)

  name-renamed : get_or bytes at 0 ≡ 0x60 → LetThrough bytes at 0x60 g → Renamed bytes r at g (with_name g (given_name (operand bytes at)))
  unfolding with_name open_rule out_of_turn open_named refused_name operands
  name-renamed e L = dite (ℕ_discrete g.count (suc r))
      (λ f. given (record {
        names = and_both (eqb (get_or bytes at 0) 0x60) (eqb g.count (suc r)) (eq-eqb (get_or bytes at 0) 0x60 e)
            (eq-eqb g.count (suc r) f);
        before = subst (λ (k : ℕ). unnamed (record_name g k) ≡ true) (last f) (not-false _ turn.0);
        whole = L.whole;
        name = named f ∙ given-part bytes at L.whole;
        valid = rw (named f) (not-false _ (or-neither _ _ L.name).0);
        count = refl;
      }))
      (λ f. let some = eqb-false g.count 0 turn.1 in
      kept (ap (λ (b : Bool). eqb (get_or bytes at 0) 0x60 && b) (ne_eqb g.count (suc r) f) ∙ and-false (eqb (get_or bytes at 0) 0x60))
      (ap (λ (a : Rule). a.name) (get_or-set_other g.rules (g.count - 1) r _ no_rule (omega arith))) (omega arith))
    where
      turn : (open_named g ≡ false) × (eqb g.count 0 ≡ false)
      turn = or-neither (open_named g) (eqb g.count 0) (or-neither (eqb at 0) _ L.turn).1

      last : g.count ≡ suc r → g.count - 1 ≡ r
      last f = omega arith

      named : g.count ≡ suc r → record_name (with_name g (given_name (operand bytes at))) r ≡ given_name (operand bytes at)
      named f = ap (λ (a : Rule). a.name) (set_at g.rules (g.count - 1) r _ (last f) (omega arith))

  abbrev Renames : Step → Type 0
  Renames (stop f) = Unit {0}
  Renames (next at' g') = Renamed bytes r at g g'
  Renames (done g') = Unit {0}

  step-renames : Renames (step bytes at g)
  unfolding carried_out after
  step-renames = step-cases bytes at g Renames (λ f. tt)
      (λ e L. start-renamed _ e)
      (λ e L. rule-renamed 0x20 _ _ _ _ refl e)
      (λ e L. rule-renamed 0x21 _ _ _ _ refl e)
      (λ e L. place-renamed 0x30 _ refl e)
      (λ e L. place-renamed 0x40 _ refl e)
      (λ e L. place-renamed 0x41 _ refl e)
      (λ e L. tt)
      (λ e L. name-renamed e L)

  pub step-renamed : (at' : ℕ) (g' : Grammar) → step bytes at g ≡ next at' g' → Renamed bytes r at g g'
  step-renamed at' g' e = subst Renames e step-renames
