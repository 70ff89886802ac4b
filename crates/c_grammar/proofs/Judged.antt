-- Check 8 accepts the grammar of a row exactly if the row's own numbers are valid. It accepts the row of a grammar exactly if it accepts
-- the grammar. Assumes nothing.
use Prim.Native.Nat.{ℕ, zero, suc, ◌+◌, ◌*◌, ◌≤◌, ◌<◌}
use native.Mathlib.Decide.{dec_le, ℕ_discrete}
use native.Mathlib.Omega.{arith}
use mathlib.Core.Bool.{Bool, true, false, cond, ◌&&◌, and-true, and-false, and_assoc, or-false}
use mathlib.Core.List.{List, [], ◌∷◌, ◌++◌, map}
use mathlib.Core.Logic.{dite}
use mathlib.Core.Path.{◌≡◌, refl, sym, ap, ap₂, ◌∙◌}
use lib.Dec.{leb}
use lib.ListN.{get_or, take}
use borrow.Author.Tests.{ne_eqb, leb-true, le-leb, lt-leb}
use Rattle.sizes.specs.Sizes.{max_rules}
use Rattle.laws.proofs.Bools.{by-test, and-parts₃}
use Rattle.theory_words.specs.Name.{allowed_name}
use Rattle.grammar.specs.declared.Symbol.TheVariants.{Nonterminal, Terminal}
use Rattle.grammar.specs.declared.Rule.{Rule}
use Rattle.grammar.specs.declared.Grammar.{Grammar}
use Rattle.grammar.specs.Valid.{all, valid_symbol, valid_place, valid_rule, distinct_names, valid_grammar}
use Rattle.numbers.specs.Numbers.{byte_in, saturated}
use Rattle.c_grammar.specs.Flat.{years_at, rule_numbers, row_symbol, records_from, row_place, row_places, row_rule, row_rules, grammar_in}
use Rattle.c_grammar.specs.Flat.{flat_of}
use Rattle.c_grammar.specs.Fits.{DeclaredGrammar}
use Rattle.c_grammar.specs.Valid.{each, valid_tagged, valid_place_at, name_numbers, valid_rule_at, valid_row}
use Rattle.c_grammar.proofs.Records.{records-more}
use Rattle.c_grammar.proofs.Round.{kept_rule, kept, read_kept}
use Rattle.c_grammar.proofs.Named.{name-judged, names-read}

-- ---- tests

-- the limit of a nonterminal
byte-limit : (n : ℕ) → leb (byte_in n) 31 ≡ leb n 31
byte-limit n =
    dite (dec_le n 31) (λ a. le-leb (byte_in n) 31 (omega arith) ∙ sym (le-leb n 31 a))
    (λ a. lt-leb (byte_in n) 31 (omega arith) ∙ sym (lt-leb n 31 (omega arith)))

-- two tests need to agree only where the count is within its limit
within : (a b x y : Bool) (n m : ℕ) → a ≡ b → (n ≤ m → x ≡ y) → (a && leb n m && x) ≡ (b && leb n m && y)
within a b x y n m e f =
    dite (dec_le n m) (λ k. λ i. e i && leb n m && f k i)
    (λ k. let t : leb n m ≡ false = lt-leb n m (omega arith) in rw (t, and-false a, and-false b))

-- ---- records

module _ {A : Type 0} (test : A → Bool) where
  all_snoc : (l : List A) (a : A) → all test (l ++ (a ∷ [])) ≡ (all test l && test a)
  unfolding all
  all_snoc [] a = and-true (test a)
  all_snoc (b ∷ l) a = ap (λ (x : Bool). test b && x) (all_snoc l a) ∙ sym (and_assoc (test b) (all test l) (test a))

  module _ (read : ℕ → A) (w at : ℕ) where
    records-each : (n : ℕ) → all test (records_from read w at n) ≡ each n (λ q. test (read (at + w * q)))
    unfolding all records_from each
    records-each zero = refl
    records-each (suc n) =
        ap (all test) (records-more read w n at (at + w * n) refl)
        ∙ all_snoc (records_from read w at n) (read (at + w * n))
        ∙ ap (λ (x : Bool). x && test (read (at + w * n))) (records-each n)

records-take : {A : Type 0} (read : ℕ → A) (w n m at : ℕ) → n ≤ m → take n (records_from read w at m) ≡ records_from read w at n
unfolding records_from
records-take read w zero m at h = refl
records-take read w (suc n) zero at h = absurd (omega arith)
records-take {A} read w (suc n) (suc m) at h = ap (λ (l : List A). read at ∷ l) (records-take read w n m (at + w) (omega arith))

-- the first n of m records are valid exactly if their numbers are
records-judged : {A : Type 0} (test : A → Bool) (read : ℕ → A) (valid : ℕ → Bool) → ((k : ℕ) → test (read k) ≡ valid k) → (w at n m : ℕ)
    → n ≤ m → all test (take n (records_from read w at m)) ≡ each n (λ q. valid (at + w * q))
records-judged test read valid same w at n m h =
    ap (all test) (records-take read w n m at h) ∙ records-each test read w at n ∙ λ i. each n (λ q. same (at + w * q) i)

-- ---- symbols, places, rules, the row

symbol-judged : (t v : ℕ) → valid_symbol (row_symbol t v) ≡ valid_tagged t v
unfolding row_symbol
symbol-judged t v =
    dite (ℕ_discrete t 0) nonterminal (λ z. dite (ℕ_discrete t 1) terminal (λ o. dite (ℕ_discrete t 2) range (other z o)))
  where
    value : (b : Bool) → valid_symbol (cond b (Terminal v) (Nonterminal 255)) ≡ b
    value true = refl
    value false = refl

    nonterminal : t ≡ 0 → valid_symbol (row_symbol t v) ≡ valid_tagged t v
    nonterminal e = rw (e, or-false (leb v 31), or-false (leb v 31)) (byte-limit v)

    terminal : t ≡ 1 → valid_symbol (row_symbol t v) ≡ valid_tagged t v
    terminal e = rw e (value (leb v 255) ∙ sym (or-false (leb v 255)))

    range : t ≡ 2 → valid_symbol (row_symbol t v) ≡ valid_tagged t v
    range e = rw e

    other : (t ≡ 0 → ⊥) → (t ≡ 1 → ⊥) → (t ≡ 2 → ⊥) → valid_symbol (row_symbol t v) ≡ valid_tagged t v
    other z o r = rw (ne_eqb t 0 z, ne_eqb t 1 o, ne_eqb t 2 r)

module _ (f : List ℕ) where
  place-judged : (at : ℕ) → valid_place (row_place f at) ≡ valid_place_at f at
  unfolding row_place valid_place_at
  place-judged at = symbol-judged (get_or f at 0) (get_or f (at + 1) 0)

  rule-judged : (at : ℕ) → valid_rule (row_rule f at) ≡ valid_rule_at f at
  unfolding valid_rule row_rule row_places valid_rule_at
  rule-judged at =
      ap₂ (λ (x y : Bool). x && leb (get_or f (at + years_at) 0) (get_or f (at + years_at + 1) 0) && y)
      (within (leb (byte_in (get_or f at 0)) 31) (leb (get_or f at 0) 31) _ _ (get_or f (at + 2) 0) 8 (byte-limit (get_or f at 0))
      (records-judged valid_place (row_place f) (valid_place_at f) place-judged 2 (at + 3) (get_or f (at + 2) 0) 8))
      (name-judged f at)

  -- the names of valid rules together
  names-judged : get_or f 1 0 ≤ max_rules → all valid_rule (take (get_or f 1 0) (row_rules f)) ≡ true
      → distinct_names (map (λ (r : Rule). r.name) (take (get_or f 1 0) (row_rules f)))
      ≡ distinct_names (records_from (name_numbers f) rule_numbers 3 (get_or f 1 0))
  unfolding row_rules
  names-judged h v =
      let e = records-take (row_rule f) rule_numbers (get_or f 1 0) max_rules 3 h in
      ap (λ (l : List Rule). distinct_names (map (λ (r : Rule). r.name) l)) e
      ∙ ap distinct_names (names-read f rule_numbers (get_or f 1 0) 3 (rw e at v))

-- a last test needs to agree only where all others pass
and_last : (a b x y : Bool) → a ≡ b → (a ≡ true → x ≡ y) → (a && x) ≡ (b && y)
and_last a b x y e f = by-test a (λ t. λ i. e i && f t i) (λ t. rw (sym e, t))

pub judged-whole : (f : List ℕ) → valid_grammar (grammar_in f) ≡ valid_row f
unfolding valid_grammar grammar_in row_rules valid_row
judged-whole f =
    and_last _ _ _ _
    (within (leb (byte_in (get_or f 0 0)) 31) (leb (get_or f 0 0) 31) _ _ (get_or f 1 0) max_rules (byte-limit (get_or f 0 0))
    (records-judged valid_rule (row_rule f) (valid_rule_at f) (rule-judged f) rule_numbers 3 (get_or f 1 0) max_rules))
    (λ v. let rules = all valid_rule (take (get_or f 1 0) (row_rules f)) in
    let p = and-parts₃ (leb (byte_in (get_or f 0 0)) 31) (leb (get_or f 1 0) max_rules) rules v in
    names-judged f (leb-true (get_or f 1 0) max_rules p.1) p.2)

-- ---- a grammar that is written

-- cutting a count to 16 bits changes neither its test against a small limit nor the test of what it counts
counts-kept : (a : Bool) (n m : ℕ) (x : ℕ → Bool) → m < 65535
    → (a && leb (saturated n) m && x (saturated n)) ≡ (a && leb n m && x n)
counts-kept a n m x h = dite (dec_le n 65535) small large
  where
    small : n ≤ 65535 → (a && leb (saturated n) m && x (saturated n)) ≡ (a && leb n m && x n)
    small k =
        let e : saturated n ≡ n = omega arith in
        ap (λ (c : ℕ). a && leb c m && x c) e

    large : (n ≤ 65535 → ⊥) → (a && leb (saturated n) m && x (saturated n)) ≡ (a && leb n m && x n)
    large k =
        let s : leb (saturated n) m ≡ false = lt-leb (saturated n) m (omega arith) in
        let t : leb n m ≡ false = lt-leb n m (omega arith) in
        rw (s, t, and-false a)

rule-kept-valid : (ρ : Rule) → valid_rule (kept_rule ρ) ≡ valid_rule ρ
unfolding valid_rule
rule-kept-valid ρ =
    ap (λ (x : Bool). x && leb ρ.first ρ.last && allowed_name ρ.name)
    (counts-kept (leb ρ.left 31) ρ.count 8 (λ n. all valid_place (take n ρ.places)) (omega arith))

-- what check 8 says of n rules and of their names together
abbrev valid_rules : ℕ → List Rule → Bool
valid_rules n l = all valid_rule (take n l) && distinct_names (map (λ (r : Rule). r.name) (take n l))

rules-kept-valid : (n : ℕ) (l : List Rule) → all valid_rule (take n (map kept_rule l)) ≡ all valid_rule (take n l)
unfolding all
rules-kept-valid zero l = refl
rules-kept-valid (suc n) [] = refl
rules-kept-valid (suc n) (ρ ∷ l) = λ i. rule-kept-valid ρ i && rules-kept-valid n l i

names-kept : (n : ℕ) (l : List Rule)
    → map (λ (r : Rule). r.name) (take n (map kept_rule l)) ≡ map (λ (r : Rule). r.name) (take n l)
names-kept zero l = refl
names-kept (suc n) [] = refl
names-kept (suc n) (ρ ∷ l) = ap (λ (x : List (List ℕ)). ρ.name ∷ x) (names-kept n l)

-- the last two tests of check 8 taken together
grammar-tests : (g : Grammar) → valid_grammar g ≡ (leb g.start 31 && leb g.count max_rules && valid_rules g.count g.rules)
unfolding valid_grammar
grammar-tests g = and_assoc (leb g.start 31 && leb g.count max_rules) _ _

-- check 8 accepts what is written exactly if it accepts the grammar
pub write-judged : (g : Grammar) → DeclaredGrammar g → valid_grammar (grammar_in (flat_of g)) ≡ valid_grammar g
write-judged g d =
    ap valid_grammar (read_kept g d) ∙ grammar-tests (kept g)
    ∙ counts-kept (leb g.start 31) g.count max_rules (λ n. valid_rules n (map kept_rule g.rules)) (omega arith)
    ∙ ap (λ (x : Bool). leb g.start 31 && leb g.count max_rules && x)
    (ap₂ ◌&&◌ (rules-kept-valid g.count g.rules) (ap distinct_names (names-kept g.count g.rules)))
    ∙ sym (grammar-tests g)
