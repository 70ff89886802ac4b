-- A grammar that is written to a flat row is read back with its counts cut to 65535. So a grammar that fits a flat row is read back as it
-- was written. Assumes nothing.
use Prim.Native.Nat.{ℕ, zero, suc, ◌+◌, ◌*◌, ◌<◌}
use native.Mathlib.Omega.{arith}
use mathlib.Core.List.{List, [], ◌∷◌, ◌++◌, map, map-id, flat_map, append_assoc, append-nil}
use mathlib.Core.Path.{◌≡◌, refl, sym, ap, ◌∙◌}
use lib.ListN.{length, get_or, drop, length-append}
use lib.Seq.{get_or-drop, drop-drop, drop_at}
use borrow.Author.Tests.{le-leb}
use Rattle.sizes.specs.Sizes.{max_places, max_rules}
use Rattle.theory_words.specs.Name.{name_size}
use Rattle.grammar.specs.declared.Symbol.{Symbol}
use Rattle.grammar.specs.declared.Symbol.TheVariants.{Nonterminal, Terminal, Range}
use Rattle.grammar.specs.declared.Place.{Place}
use Rattle.grammar.specs.declared.Rule.{Rule}
use Rattle.grammar.specs.declared.Grammar.{Grammar}
use Rattle.grammar.specs.Setters.{set_place_count, set_count, set_rules}
use Rattle.grammar.specs.Tagged.{tag_of, value_of, high_of}
use Rattle.grammar.specs.Zero.{zero_place, no_rule}
use Rattle.grammar.proofs.Setters.{rule-same, grammar-same}
use Rattle.numbers.specs.Numbers.{byte_in, saturated, signed_in, unsigned_of}
use Rattle.numbers.proofs.Complement.{signed_round}
use Rattle.c_grammar.specs.Flat.{low_end, high_end, row_symbol, records_from, row_place, row_places, row_byte, row_name, row_rule, row_rules}
use Rattle.c_grammar.specs.Flat.{grammar_in, years_at, name_at, rule_numbers, flat_place, flat_rule, flat_of}
use Rattle.c_grammar.specs.Fits.{SymbolBytes, DeclaredRule, DeclaredGrammar, Fits16}
use Rattle.c_grammar.proofs.Records.{flat_byte, flat-bytes}

-- ---- one place

symbol-round : (s : Symbol) (t v : ℕ) → t ≡ tag_of s → v ≡ value_of s + 256 * high_of s → value_of s < 256 → row_symbol t v ≡ s
unfolding row_symbol
symbol-round (Nonterminal k) t v e f h =
    let d : byte_in v ≡ k = omega arith in
    rw (e, d)
symbol-round (Terminal m) t v e f h =
    let d : v ≡ m = omega arith in
    rw (e, d, le-leb m 255 (omega arith))
symbol-round (Range low high) t v e f h =
    let d : low_end v ≡ low = omega arith in
    let u : high_end v ≡ high = omega arith in
    rw (e, d, u)

-- ---- records

-- the number at j of a row that goes on as l from the index `at`
at-index : (f l : List ℕ) (at k j : ℕ) → j ≡ at + k → drop at f ≡ l → get_or f j 0 ≡ get_or l k 0
at-index f l at k j e h =
    ap (λ (x : ℕ). get_or f x 0) e ∙ sym (get_or-drop at f k 0) ∙ ap (λ (x : List ℕ). get_or x k 0) h

-- w numbers further on
further : (f a l : List ℕ) (at w : ℕ) → length a ≡ w → drop at f ≡ a ++ l → drop (at + w) f ≡ l
further f a l at w n h = sym (drop-drop w at f) ∙ ap (drop w) h ∙ drop_at a l w n

module _ {A : Type 0} (d : A) (flat : A → List ℕ) (keep : A → A) (read : ℕ → A) (w : ℕ) (f : List ℕ) (Fits : A → Type 0)
    (size : (a : A) → Fits a → length (flat a) ≡ w)
    (back : (a : A) (at : ℕ) (rest : List ℕ) → Fits a → drop at f ≡ flat a ++ rest → read at ≡ keep a) where
  records-back : (l : List A) (at n : ℕ) (rest : List ℕ) → length l ≡ n → ((k : ℕ) → k < n → Fits (get_or l k d))
      → drop at f ≡ flat_map flat l ++ rest → records_from read w at n ≡ map keep l
  unfolding records_from flat_map
  records-back [] at zero rest e fits h = refl
  records-back [] at (suc n) rest e fits h = absurd (omega arith)
  records-back (a ∷ l) at zero rest e fits h = absurd (omega arith)
  records-back (a ∷ l) at (suc n) rest e fits h =
      let g : drop at f ≡ flat a ++ (flat_map flat l ++ rest) = h ∙ append_assoc (flat a) (flat_map flat l) rest in
      let x = back a at (flat_map flat l ++ rest) (fits 0 (omega arith)) g in
      let y =
      records-back l (at + w) n rest (omega arith) (λ k m. fits (suc k) (omega arith))
      (further f (flat a) (flat_map flat l ++ rest) at w (size a (fits 0 (omega arith))) g)
      in
      λ i. x i ∷ y i

-- ---- places, rules, the grammar

-- the rule with a count that a row holds
abbrev pub kept_rule : Rule → Rule
kept_rule ρ = set_place_count ρ (saturated ρ.count)

-- the grammar with counts that a row holds
abbrev pub kept : Grammar → Grammar
kept g = set_count (set_rules g (map kept_rule g.rules)) (saturated g.count)

place-size : (p : Place) → length (flat_place p) ≡ 2
unfolding flat_place
place-size p = refl

places-size : (l : List Place) → length (flat_map flat_place l) ≡ 2 * length l
unfolding flat_map flat_place
places-size [] = refl
places-size (p ∷ l) = omega (arith, places-size l)

rule-size : (ρ : Rule) → DeclaredRule ρ → length (flat_rule ρ) ≡ rule_numbers
unfolding flat_rule
rule-size ρ d =
    let n = length-append (flat_map flat_place ρ.places) (ρ.first ∷ ρ.last ∷ ρ.name) in
    omega (arith, n, places-size ρ.places, d.places, d.name)

module _ (f : List ℕ) where
  place-back : (p : Place) (at : ℕ) (rest : List ℕ) → SymbolBytes p.symbol → drop at f ≡ flat_place p ++ rest → row_place f at ≡ p
  unfolding row_place flat_place
  place-back p at rest v h =
      let t : get_or f at 0 ≡ tag_of p.symbol = at-index f (flat_place p ++ rest) at 0 at (omega arith) h in
      let n : get_or f (at + 1) 0 ≡ value_of p.symbol + 256 * high_of p.symbol = at-index f (flat_place p ++ rest) at 1 (at + 1) refl h in
      let e = symbol-round p.symbol (get_or f at 0) (get_or f (at + 1) 0) t n v.0 in
      λ i. record { symbol = e i }

  places-back : (l : List Place) (at : ℕ) (rest : List ℕ) → length l ≡ max_places
      → ((q : ℕ) → q < max_places → SymbolBytes (get_or l q zero_place).symbol) → drop at f ≡ flat_map flat_place l ++ rest
      → row_places f at ≡ l
  unfolding row_places
  places-back l at rest n v h =
      records-back zero_place flat_place (λ p. p) (row_place f) 2 f (λ p. SymbolBytes p.symbol) (λ p _. place-size p) place-back l at 8
      rest n v h
      ∙ map-id l

  byte-back : (b at : ℕ) (rest : List ℕ) → b < 256 → drop at f ≡ flat_byte b ++ rest → row_byte f at ≡ b
  byte-back b at rest v h = omega (arith, at-index f (b ∷ rest) at 0 at (omega arith) h)

  name_back : (l : List ℕ) (at : ℕ) (rest : List ℕ) → length l ≡ name_size → ((k : ℕ) → k < name_size → get_or l k 0 < 256)
      → drop at f ≡ l ++ rest → row_name f at ≡ l
  unfolding row_name
  name_back l at rest n v h =
      records-back 0 flat_byte (λ b. b) (row_byte f) 1 f (λ b. b < 256) (λ b _. refl) byte-back l at name_size rest n v
      (h ∙ ap (λ (x : List ℕ). x ++ rest) (sym (flat-bytes l)))
      ∙ map-id l

  rule-back : (ρ : Rule) (at : ℕ) (rest : List ℕ) → DeclaredRule ρ → drop at f ≡ flat_rule ρ ++ rest → row_rule f at ≡ kept_rule ρ
  unfolding row_rule flat_rule
  rule-back ρ at rest d h =
      let places = flat_map flat_place ρ.places in
      let years = ρ.first ∷ ρ.last ∷ [] in
      let k : get_or f at 0 ≡ ρ.left = at-index f (flat_rule ρ ++ rest) at 0 at (omega arith) h in
      let m : get_or f (at + 1) 0 ≡ unsigned_of ρ.length = at-index f (flat_rule ρ ++ rest) at 1 (at + 1) refl h in
      let a : byte_in (get_or f at 0) ≡ ρ.left = omega (arith, d.left) in
      let b : signed_in (get_or f (at + 1) 0) ≡ ρ.length = ap signed_in m ∙ signed_round ρ.length d.magnitude in
      let c : get_or f (at + 2) 0 ≡ saturated ρ.count = at-index f (flat_rule ρ ++ rest) at 2 (at + 2) refl h in
      let p : drop (at + 3) f ≡ places ++ (years ++ (ρ.name ++ rest)) =
      further f (ρ.left ∷ unsigned_of ρ.length ∷ saturated ρ.count ∷ []) ((places ++ (years ++ ρ.name)) ++ rest) at 3 refl h
      ∙ append_assoc places (years ++ ρ.name) rest
      in
      let e = places-back ρ.places (at + 3) (years ++ (ρ.name ++ rest)) d.places d.symbols p in
      let n : length places ≡ 2 * max_places = omega (arith, places-size ρ.places, d.places) in
      let y = further f places (years ++ (ρ.name ++ rest)) (at + 3) (2 * max_places) n p in
      let j : at + 3 + 2 * max_places + 2 ≡ at + name_at = omega arith in
      let x = further f years (ρ.name ++ rest) (at + 3 + 2 * max_places) 2 refl y in
      rule-same (row_rule f at) (kept_rule ρ) a b c e
      (at-index f (years ++ (ρ.name ++ rest)) (at + 3 + 2 * max_places) 0 (at + years_at) (omega arith) y)
      (at-index f (years ++ (ρ.name ++ rest)) (at + 3 + 2 * max_places) 1 (at + years_at + 1) (omega arith) y)
      (name_back ρ.name (at + name_at) rest d.name d.bytes (ap (λ (i : ℕ). drop i f) (sym j) ∙ x))

module _ (g : Grammar) (d : DeclaredGrammar g) where
  rules-back : row_rules (flat_of g) ≡ map kept_rule g.rules
  unfolding row_rules flat_of
  rules-back =
      records-back no_rule flat_rule kept_rule (row_rule (flat_of g)) rule_numbers (flat_of g) DeclaredRule rule-size (rule-back (flat_of g))
      g.rules 3 max_rules [] d.rules d.each (sym (append-nil (flat_map flat_rule g.rules)))

  pub read_kept : grammar_in (flat_of g) ≡ kept g
  unfolding grammar_in flat_of
  read_kept =
      let a : byte_in g.start ≡ g.start = omega (arith, d.start) in
      let c : byte_in g.depth ≡ g.depth = omega (arith, d.depth) in
      grammar-same (grammar_in (flat_of g)) (kept g) a refl c rules-back

-- ---- a grammar that a row holds whole

rules-kept : (l : List Rule) → ((r : ℕ) → r < length l → saturated (get_or l r no_rule).count ≡ (get_or l r no_rule).count) → map kept_rule l ≡ l
rules-kept [] h = refl
rules-kept (ρ ∷ l) h =
    let e = h 0 (omega arith) in
    let t = rules-kept l (λ r k. h (suc r) (omega arith)) in
    λ i. set_place_count ρ (e i) ∷ t i

pub read-write : (g : Grammar) → Fits16 g → grammar_in (flat_of g) ≡ g
read-write g fits =
    let e : saturated g.count ≡ g.count = omega (arith, fits.count) in
    let t = rules-kept g.rules (λ r h. omega (arith, fits.counts r (omega (arith, fits.declared.rules)))) in
    read_kept g fits.declared ∙ λ i. set_count (set_rules g (t i)) (e i)
