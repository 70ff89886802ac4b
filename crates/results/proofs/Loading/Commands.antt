-- The commands of a book: what their checks let through, what a step keeps of the offset and of the grammar read so far, and what is known
-- of the last command. Assumes nothing.
use Prim.Native.Nat.{ℕ, zero, suc, ◌+◌, ◌≤◌, ◌<◌}
use native.Mathlib.Decide.{ℕ_discrete}
use native.Mathlib.Omega.{arith}
use mathlib.Core.Bool.{Bool, true, false, not, ◌&&◌, ◌||◌}
use mathlib.Core.List.{List}
use mathlib.Core.Logic.{dite}
use mathlib.Core.Path.{◌≡◌, refl, sym, subst}
use lib.Dec.{eqb, ltb}
use lib.ListN.{length, get_or}
use borrow.Author.Tests.{ltb-true, ltb-false, le-leb, eqb-false, ne_eqb, not-false}
use Rattle.sizes.specs.Sizes.{max_rules, max_places}
use Rattle.laws.proofs.Bools.{true-false, or-neither}
use Rattle.theory_words.specs.Name.{valid_name}
use Rattle.grammar.specs.declared.Symbol.{Symbol}
use Rattle.grammar.specs.declared.Symbol.TheVariants.{Nonterminal, Terminal, Range}
use Rattle.grammar.specs.declared.Grammar.{Grammar}
use Rattle.grammar.specs.Setters.{last_year}
use Rattle.grammar.specs.Valid.{valid_symbol}
use Rattle.grammar.specs.Zero.{zero_grammar}
use Rattle.results.specs.Load.{operands, operand, signed, from_year, to_year, given_name, open_rule, with_start, with_rule, with_place}
use Rattle.results.specs.Load.{with_name, after, unknown, opens_rule, adds_place, open_named, out_of_turn, refused_name, Fault}
use Rattle.results.specs.Load.{Step, stop, next, done, operand_checks, command_checks, carried_out, step, refused_load}
use Rattle.results.specs.Load.{accepted_load, run}
use Rattle.results.proofs.Decide.{decide-either}
use Rattle.results.proofs.Loading.Run.{run-stop, run-next, run-done}

-- ---- which commands there are

pub unknown-other : (c : ℕ) → (c ≡ 0x10 → ⊥) → (c ≡ 0x20 → ⊥) → (c ≡ 0x21 → ⊥) → (c ≡ 0x30 → ⊥) → (c ≡ 0x40 → ⊥) → (c ≡ 0x41 → ⊥)
    → (c ≡ 0x50 → ⊥) → (c ≡ 0x60 → ⊥) → unknown c ≡ true
unfolding unknown
unknown-other c n₁ n₂ n₃ n₄ n₅ n₆ n₇ n₈ = rw (
  ne_eqb c 0x10 n₁,
  ne_eqb c 0x20 n₂,
  ne_eqb c 0x21 n₃,
  ne_eqb c 0x30 n₄,
  ne_eqb c 0x40 n₅,
  ne_eqb c 0x41 n₆,
  ne_eqb c 0x50 n₇,
  ne_eqb c 0x60 n₈,
)

-- what holds of each command holds of each byte that is not unknown
pub each-command : (K : ℕ → Type 0) → K 0x10 → K 0x20 → K 0x21 → K 0x30 → K 0x40 → K 0x41 → K 0x50 → K 0x60 → (c : ℕ)
    → unknown c ≡ false → K c
each-command K start rule years nonterminal terminal range end name c k =
    dite (ℕ_discrete c 0x10) (λ e. subst K (sym e) start) (λ n₁.
    dite (ℕ_discrete c 0x20) (λ e. subst K (sym e) rule) (λ n₂.
    dite (ℕ_discrete c 0x21) (λ e. subst K (sym e) years) (λ n₃.
    dite (ℕ_discrete c 0x30) (λ e. subst K (sym e) nonterminal) (λ n₄.
    dite (ℕ_discrete c 0x40) (λ e. subst K (sym e) terminal) (λ n₅.
    dite (ℕ_discrete c 0x41) (λ e. subst K (sym e) range) (λ n₆.
    dite (ℕ_discrete c 0x50) (λ e. subst K (sym e) end) (λ n₇.
    dite (ℕ_discrete c 0x60) (λ e. subst K (sym e) name) (λ n₈.
    absurd (true-false (unknown-other c n₁ n₂ n₃ n₄ n₅ n₆ n₇ n₈) k)))))))))

-- ---- what the checks let through

-- the command c at an offset, with each of its checks passed
pub record LetThrough (bytes : List ℕ) (at c : ℕ) (g : Grammar) : Type 0 where
  pub begins : at < length bytes
  pub known : unknown c ≡ false
  pub turn : out_of_turn c at g ≡ false
  pub whole : at + 1 + operands c ≤ length bytes
  pub nonterminal : (eqb c 0x10 || opens_rule c || eqb c 0x30) ≡ true → operand bytes at 0 ≤ 31
  pub rising : eqb c 0x41 ≡ true → operand bytes at 0 ≤ operand bytes at 1
  pub name : (eqb c 0x60 && refused_name g (given_name (operand bytes at))) ≡ false
  pub years : eqb c 0x21 ≡ true → from_year (operand bytes at) ≤ to_year (operand bytes at)
  pub rules : opens_rule c ≡ true → g.count ≤ 127
  pub places : adds_place c ≡ true → (open_rule g).count ≤ 7
  pub last : eqb c 0x50 ≡ true → length bytes ≤ at + 1

-- a name that is not refused is valid
pub unrefused-valid : (g : Grammar) (name : List ℕ) → refused_name g name ≡ false → valid_name name ≡ true
unfolding refused_name
unrefused-valid g name r = not-false (valid_name name) (or-neither (not (valid_name name)) _ r).0

-- a limit that applies is kept
pub kept-to : (b : Bool) (m n : ℕ) → (b && ltb m n) ≡ false → b ≡ true → n ≤ m
kept-to b m n e t = ltb-false m n (rw t at e)

module _ (bytes : List ℕ) (at : ℕ) (g : Grammar) where
  -- P holds of what the command c comes to
  abbrev Case : (Step → Type 0) → ℕ → Type 0
  Case P c = get_or bytes at 0 ≡ c → LetThrough bytes at c g → P (carried_out bytes at c g)

  -- what holds of each fault, and of each command that its checks let through, holds of a step
  pub step-cases : (P : Step → Type 0) → ((f : Fault) → P (stop f)) → Case P 0x10 → Case P 0x20 → Case P 0x21 → Case P 0x30 → Case P 0x40
      → Case P 0x41 → Case P 0x50 → Case P 0x60 → P (step bytes at g)
  unfolding step command_checks operand_checks
  step-cases P faulty start rule years nonterminal terminal range end name = decide-either stop _ P _ faulty
      (λ p. let (begins, (known, (turn, (whole, (small, (rising, (unrefused, (ordered, (rules, (places, (last, u))))))))))) = p in
      each-command (Case P) start rule years nonterminal terminal range end name (get_or bytes at 0) known refl (record {
        begins = ltb-true at (length bytes) (not-false (ltb at (length bytes)) begins);
        known = known;
        turn = turn;
        whole = ltb-false (length bytes) (at + 1 + operands (get_or bytes at 0)) whole;
        nonterminal = kept-to _ 31 (operand bytes at 0) small;
        rising = kept-to _ (operand bytes at 1) (operand bytes at 0) rising;
        name = unrefused;
        years = kept-to _ (to_year (operand bytes at)) (from_year (operand bytes at)) ordered;
        rules = kept-to _ 127 g.count rules;
        places = kept-to _ 7 (open_rule g).count places;
        last = kept-to _ (at + 1) (length bytes) last;
      }))

-- what a command does depends only on its operands
pub after_same : (c : ℕ) (x y : ℕ → ℕ) (g : Grammar) → ((i : ℕ) → i < 8 → x i ≡ y i) → after c x g ≡ after c y g
unfolding after
after_same c x y g same = rw (
  same 0 (omega arith),
  same 1 (omega arith),
  same 2 (omega arith),
  same 3 (omega arith),
  same 4 (omega arith),
  same 5 (omega arith),
  same 6 (omega arith),
  same 7 (omega arith),
)

-- ---- the last command

-- what is known at the end of a book
pub record Ended (bytes : List ℕ) (at : ℕ) (g g' : Grammar) : Type 0 where
  -- the command is 50
  pub command : get_or bytes at 0 ≡ 0x50
  -- it is the last byte
  pub last : at + 1 ≡ length bytes
  -- it leaves the grammar as it is
  pub same : g' ≡ g

module _ (bytes : List ℕ) (at : ℕ) (g : Grammar) where
  abbrev Ends : Step → Type 0
  Ends (stop f) = Unit {0}
  Ends (next at' g') = Unit {0}
  Ends (done g') = Ended bytes at g g'

  step-ends : Ends (step bytes at g)
  unfolding carried_out
  step-ends = step-cases bytes at g Ends (λ f. tt) (λ e L. tt) (λ e L. tt) (λ e L. tt) (λ e L. tt) (λ e L. tt) (λ e L. tt)
      (λ e L. record { command = e; last = omega (arith, L.begins, L.last refl); same = refl }) (λ e L. tt)

  pub step-done : (g' : Grammar) → step bytes at g ≡ done g' → Ended bytes at g g'
  step-done g' e = subst Ends e step-ends

-- ---- what a step keeps

-- the bytes of the command that adds a place with this symbol
abbrev pub place_size : Symbol → ℕ
place_size (Nonterminal k) = 2
place_size (Terminal m) = 2
place_size (Range low high) = 3

pub place-few : (s : Symbol) → place_size s ≤ 3
place-few (Nonterminal k) = omega arith
place-few (Terminal m) = omega arith
place-few (Range low high) = omega arith

-- the numbers of the symbol are operands of the command at an offset
abbrev pub HeldIn : List ℕ → ℕ → Symbol → Type 0
HeldIn bytes at (Nonterminal k) = k ≡ operand bytes at 0
HeldIn bytes at (Terminal m) = m ≡ operand bytes at 0
HeldIn bytes at (Range low high) = (low ≡ operand bytes at 0) × (high ≡ operand bytes at 1)

-- P holds of the grammar of no rules at the start of the book, and each command that its checks let through keeps it
pub record Invariant (bytes : List ℕ) (P : ℕ → Grammar → Type 0) : Type 0 where
  pub zero : P 0 zero_grammar
  pub start : (at : ℕ) (g : Grammar) → P at g → at ≡ 0 → operand bytes at 0 ≤ 31 → P (at + 2) (with_start g (operand bytes at 0))
  pub rule : (at : ℕ) (g : Grammar) → P at g → operand bytes at 0 ≤ 31 → g.count < max_rules
      → P (at + 4) (with_rule g (operand bytes at 0) (signed (operand bytes at 1) (operand bytes at 2)) 0 last_year)
  pub years : (at : ℕ) (g : Grammar) → P at g → operand bytes at 0 ≤ 31 → from_year (operand bytes at) ≤ to_year (operand bytes at)
      → g.count < max_rules
      → P (at + 8) (with_rule g (operand bytes at 0) (signed (operand bytes at 1) (operand bytes at 2)) (from_year (operand bytes at))
      (to_year (operand bytes at)))
  pub place : (at : ℕ) (g : Grammar) → P at g → (s : Symbol) → HeldIn bytes at s → valid_symbol s ≡ true → 0 < g.count
      → (open_rule g).count < max_places → P (at + place_size s) (with_place g s)
  pub name : (at : ℕ) (g : Grammar) → P at g → 0 < g.count → open_named g ≡ false → refused_name g (given_name (operand bytes at)) ≡ false
      → P (at + 9) (with_name g (given_name (operand bytes at)))

module _ {bytes : List ℕ} {P : ℕ → Grammar → Type 0} (I : Invariant bytes P) where
  module _ (at : ℕ) (g : Grammar) (H : P at g) where
    -- P holds of what a step goes on with
    abbrev Kept : Step → Type 0
    Kept (stop f) = Unit {0}
    Kept (next at' g') = P at' g'
    Kept (done g') = Unit {0}

    two : (h : Grammar) → P (at + 2) h → P (at + 1 + 1) h
    two h = subst (λ (n : ℕ). P n h) (omega arith)

    four : (h : Grammar) → P (at + 4) h → P (at + 1 + 3) h
    four h = subst (λ (n : ℕ). P n h) (omega arith)

    eight : (h : Grammar) → P (at + 8) h → P (at + 1 + 7) h
    eight h = subst (λ (n : ℕ). P n h) (omega arith)

    placed : (s : Symbol) → HeldIn bytes at s → valid_symbol s ≡ true → (eqb at 0 || eqb g.count 0) ≡ false
        → (open_rule g).count ≤ 7 → (n : ℕ) → at + place_size s ≡ n → P n (with_place g s)
    placed s e v o p n f =
        let m = eqb-false g.count 0 (or-neither (eqb at 0) (eqb g.count 0) o).1 in
        subst (λ (x : ℕ). P x (with_place g s)) f (I.place at g H s e v (omega arith) (omega arith))

    -- a rule is open, and it has no name
    named : (eqb at 0 || (open_named g || eqb g.count 0)) ≡ false → refused_name g (given_name (operand bytes at)) ≡ false
        → P (at + 1 + 8) (with_name g (given_name (operand bytes at)))
    named o r =
        let later = (or-neither (eqb at 0) (open_named g || eqb g.count 0) o).1 in
        let m = eqb-false g.count 0 (or-neither (open_named g) (eqb g.count 0) later).1 in
        subst (λ (n : ℕ). P n (with_name g (given_name (operand bytes at)))) (omega arith)
        (I.name at g H (omega arith) (or-neither (open_named g) (eqb g.count 0) later).0 r)

    step-holds : Kept (step bytes at g)
    unfolding carried_out operands after out_of_turn
    step-holds = step-cases bytes at g Kept (λ f. tt)
        (λ e L. two _ (I.start at g H (omega (arith, ltb-false 0 at L.turn)) (L.nonterminal refl)))
        (λ e L. four _ (I.rule at g H (L.nonterminal refl) (omega (arith, L.rules refl))))
        (λ e L. eight _ (I.years at g H (L.nonterminal refl) (L.years refl) (omega (arith, L.rules refl))))
        (λ e L. placed (Nonterminal (operand bytes at 0)) refl (le-leb (operand bytes at 0) 31 (L.nonterminal refl)) L.turn
        (L.places refl) _ (omega arith))
        (λ e L. placed (Terminal (operand bytes at 0)) refl refl L.turn (L.places refl) _ (omega arith))
        (λ e L. placed (Range (operand bytes at 0) (operand bytes at 1)) (refl, refl)
        (le-leb (operand bytes at 0) (operand bytes at 1) (L.rising refl)) L.turn (L.places refl) _ (omega arith))
        (λ e L. tt)
        (λ e L. named L.turn L.name)

    pub step_kept : (at' : ℕ) (g' : Grammar) → step bytes at g ≡ next at' g' → P at' g'
    step_kept at' g' e = subst Kept e step-holds

  -- Q holds of the grammar that a book gives, if it holds of the grammar of no rules and of each that P holds of
  pub run-kept : (Q : Grammar → Type 0) → Q zero_grammar → ((at : ℕ) (g : Grammar) → P at g → Q (accepted_load g).grammar)
      → (n at : ℕ) (g : Grammar) → P at g → Q (run bytes n at g).grammar
  unfolding run refused_load accepted_load
  run-kept Q z f zero at g H = z
  run-kept Q z f (suc n) at g H = go (step bytes at g) refl (run-kept Q z f n)
    where
      go : (s : Step) → step bytes at g ≡ s → ((at' : ℕ) (g' : Grammar) → P at' g' → Q (run bytes n at' g').grammar)
          → Q (run bytes (suc n) at g).grammar
      go (stop e) p later = rw (run-stop n bytes at g e p) z
      go (next at' g') p later = rw (run-next n bytes at g at' g' p) (later at' g' (step_kept at g H at' g' p))
      go (done g') p later = rw (run-done n bytes at g g' p, (step-done bytes at g g' p).same) (f at g H)
