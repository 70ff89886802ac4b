-- Writing a declared rule into row r of a packed grammar, place by place. Assumes nothing.
use Prim.Native.Nat.{ℕ, zero, suc, ◌+◌, ◌*◌, ◌≤◌, ◌<◌}
use mathlib.Core.Bool.{true, cond}
use mathlib.Core.List.{List, ◌∷◌, map}
use mathlib.Core.Logic.{◌≢◌}
use mathlib.Core.Path.{◌≡◌, refl, sym, ap, ◌∙◌}
use native.Mathlib.Omega.{arith}
use lib.Dec.{eqb}
use lib.ListN.{length, get_or, take, drop, set, length-set}
use lib.Seq.{get_or-take, get_or-set_same, get_or-set_other, drop-cons}
use Rattle.sizes.specs.Sizes.{max_rules, max_places}
use Rattle.laws.proofs.Lists.{below_step}
use Rattle.cfg.specs.Grammar as Abstract
use Rattle.grammar.specs.declared.Symbol.{Symbol}
use Rattle.grammar.specs.declared.Symbol.TheVariants.{Nonterminal, Terminal, Range}
use Rattle.grammar.specs.declared.Place.{Place}
use Rattle.grammar.specs.declared.Rule.{Rule}
use Rattle.grammar.specs.Tagged.{tag_of, value_of, high_of}
use Rattle.grammar.specs.Valid.{valid_rule}
use Rattle.grammar.specs.View.{symbol_of, place_of, rule_of}
use Rattle.grammar.specs.Zero.{zero_place}
use Rattle.grammar.proofs.Bounds.{rule-parts}
use Rattle.packed.specs.Packed.{left_in, place_count, is_nonterminal_in, is_range_in, tag_in, terminal_in, value_in, high_in, symbol_in}
use Rattle.packed.specs.Packed.{places_from, places_in, rule_in, packed_size, rule_bytes, highs_at}
use Rattle.packed_make.specs.Place.{RulePacked}
use Rattle.packed.proofs.Laws.{count-used, count-le, rule-used}

-- the three bytes of a symbol
three-bytes : (s : Symbol) (t v u : ℕ) → t ≡ tag_of s → v ≡ value_of s → u ≡ high_of s
    → cond (eqb t 0) (Abstract.nonterminal v) (Abstract.terminal (cond (eqb t 2) (Abstract.range v u) (Abstract.byte v))) ≡ symbol_of s
three-bytes (Nonterminal k) t v u e f g = rw (e, f)
three-bytes (Terminal m) t v u e f g = rw (e, f)
three-bytes (Range low high) t v u e f g = rw (e, f, g)

-- p is p₀ except for row r, which has the left side, the count and the first q places of the rule
pub record Row (ρ : Rule) (r q : ℕ) (p₀ p : List ℕ) : Type 0 where
  pub long : length p ≡ packed_size
  pub left : left_in p r ≡ ρ.left
  pub count : get_or p (rule_bytes * r + 1) 0 ≡ ρ.count
  pub places : (k : ℕ) → k < q → symbol_in p r k ≡ place_of (get_or ρ.places k zero_place)
  pub other : (s b : ℕ) → s ≢ r → b < rule_bytes → get_or p (rule_bytes * s + b) 0 ≡ get_or p₀ (rule_bytes * s + b) 0

module _ (p : List ℕ) (a x c y : ℕ) where
  -- after two stores
  two-first : a ≢ c → a < length p → get_or (set (set p a x) c y) a 0 ≡ x
  two-first d h = get_or-set_other (set p a x) c a y 0 d ∙ get_or-set_same p a x 0 h

  two-second : c < length p → get_or (set (set p a x) c y) c 0 ≡ y
  two-second h = get_or-set_same (set p a x) c y 0 (omega (arith, length-set p a x))

  two-other : (j : ℕ) → j ≢ a → j ≢ c → get_or (set (set p a x) c y) j 0 ≡ get_or p j 0
  two-other j d e = get_or-set_other (set p a x) c j y 0 e ∙ get_or-set_other p a j x 0 d

  two-length : length (set (set p a x) c y) ≡ length p
  two-length = length-set (set p a x) c y ∙ length-set p a x

  -- after a third store
  module _ (e z : ℕ) where
    three-other : (j : ℕ) → j ≢ a → j ≢ c → j ≢ e → get_or (set (set (set p a x) c y) e z) j 0 ≡ get_or p j 0
    three-other j f g h = get_or-set_other (set (set p a x) c y) e j z 0 h ∙ two-other j f g

    three-last : e < length p → get_or (set (set (set p a x) c y) e z) e 0 ≡ z
    three-last h = get_or-set_same (set (set p a x) c y) e z 0 (omega (arith, two-length))

-- the bytes with the left side and the count
abbrev pub headed : List ℕ → ℕ → ℕ → ℕ → List ℕ
headed p r left count = set (set p (rule_bytes * r) left) (rule_bytes * r + 1) count

headed-other : (p : List ℕ) (r left count s b : ℕ) → s ≢ r → b < rule_bytes
    → get_or (headed p r left count) (rule_bytes * s + b) 0 ≡ get_or p (rule_bytes * s + b) 0
headed-other p r left count s b d h =
    two-other p (rule_bytes * r) left (rule_bytes * r + 1) count (rule_bytes * s + b) (omega arith) (omega arith)

module _ (ρ : Rule) (r : ℕ) (low : r < max_rules) where
  pub row-start : (p : List ℕ) → length p ≡ packed_size → Row ρ r 0 (headed p r ρ.left ρ.count) (headed p r ρ.left ρ.count)
  unfolding left_in
  row-start p e = record {
    long = two-length p (rule_bytes * r) ρ.left (rule_bytes * r + 1) ρ.count ∙ e;
    left = two-first p (rule_bytes * r) ρ.left (rule_bytes * r + 1) ρ.count (omega arith) (omega arith);
    count = two-second p (rule_bytes * r) ρ.left (rule_bytes * r + 1) ρ.count (omega arith);
    places = λ k h. absurd (omega arith);
    other = λ s b d h. refl;
  }

  module _ (p₀ p : List ℕ) (q t v u : ℕ) (few : q < max_places) (row : Row ρ r q p₀ p)
      (et : t ≡ tag_of (get_or ρ.places q zero_place).symbol) (ev : v ≡ value_of (get_or ρ.places q zero_place).symbol)
      (eu : u ≡ high_of (get_or ρ.places q zero_place).symbol) where
    -- where the three bytes of place k are
    abbrev tag_at : ℕ → ℕ
    tag_at k = rule_bytes * r + 2 + 2 * k

    abbrev value-at : ℕ → ℕ
    value-at k = rule_bytes * r + 3 + 2 * k

    abbrev high-at : ℕ → ℕ
    high-at k = rule_bytes * r + highs_at + k

    -- the bytes with one more place
    abbrev two : List ℕ
    two = set (set p (tag_at q) t) (value-at q) v

    abbrev next : List ℕ
    next = set two (high-at q) u

    stays : (j : ℕ) → j ≢ tag_at q → j ≢ value-at q → j ≢ high-at q → get_or next j 0 ≡ get_or p j 0
    stays = three-other p (tag_at q) t (value-at q) v (high-at q) u

    place_same : symbol_in next r q ≡ place_of (get_or ρ.places q zero_place)
    unfolding symbol_in is_nonterminal_in is_range_in tag_in terminal_in value_in high_in
    place_same =
        three-bytes (get_or ρ.places q zero_place).symbol (get_or next (tag_at q) 0) (get_or next (value-at q) 0) (get_or next (high-at q) 0)
        (get_or-set_other two (high-at q) (tag_at q) u 0 (omega arith)
        ∙ two-first p (tag_at q) t (value-at q) v (omega arith) (omega (arith, row.long)) ∙ et)
        (get_or-set_other two (high-at q) (value-at q) u 0 (omega arith)
        ∙ two-second p (tag_at q) t (value-at q) v (omega (arith, row.long)) ∙ ev)
        (three-last p (tag_at q) t (value-at q) v (high-at q) u (omega (arith, row.long)) ∙ eu)

    place_other : (k : ℕ) → k < q → symbol_in next r k ≡ symbol_in p r k
    unfolding symbol_in is_nonterminal_in is_range_in tag_in terminal_in value_in high_in
    place_other k h =
        rw (
          stays (tag_at k) (omega arith) (omega arith) (omega arith),
          stays (value-at k) (omega arith) (omega arith) (omega arith),
          stays (high-at k) (omega arith) (omega arith) (omega arith),
        )

    pub row_step : Row ρ r (q + 1) p₀ next
    unfolding left_in
    row_step = record {
      long = length-set two (high-at q) u ∙ two-length p (tag_at q) t (value-at q) v ∙ row.long;
      left = stays (rule_bytes * r) (omega arith) (omega arith) (omega arith) ∙ row.left;
      count = stays (rule_bytes * r + 1) (omega arith) (omega arith) (omega arith) ∙ row.count;
      places = below_step (λ (k : ℕ). symbol_in next r k ≡ place_of (get_or ρ.places k zero_place)) q
          (λ k l. place_other k l ∙ row.places k l) place_same;
      other = λ s b d h. stays (rule_bytes * s + b) (omega arith) (omega arith) (omega arith) ∙ row.other s b d h;
    }

  -- the same where the used places are read one by one
  module _ (p₀ p : List ℕ) (q t v u : ℕ) (few : q < max_places) (used : q < ρ.count) (row : Row ρ r q p₀ p)
      (et : t ≡ tag_of (get_or (take ρ.count ρ.places) q zero_place).symbol)
      (ev : v ≡ value_of (get_or (take ρ.count ρ.places) q zero_place).symbol)
      (eu : u ≡ high_of (get_or (take ρ.count ρ.places) q zero_place).symbol) where
    same_place : get_or (take ρ.count ρ.places) q zero_place ≡ get_or ρ.places q zero_place
    same_place = get_or-take ρ.count ρ.places q zero_place used

    pub used_step : Row ρ r (q + 1) p₀
        (set (set (set p (rule_bytes * r + 2 + 2 * q) t) (rule_bytes * r + 3 + 2 * q) v) (rule_bytes * r + highs_at + q) u)
    used_step = row_step p₀ p q t v u few row (rw same_place at et) (rw same_place at ev) (rw same_place at eu)

-- ---- the places written are those of the rule

places-are : (l : List Place) (p : List ℕ) (r n q : ℕ) → q + n ≤ length l
    → ((k : ℕ) → k < q + n → symbol_in p r k ≡ place_of (get_or l k zero_place)) → places_from p r q n ≡ map place_of (take n (drop q l))
unfolding places_from
places-are l p r zero q h f = refl
places-are l p r (suc n) q h f =
    rw (drop-cons l q zero_place (omega arith), f q (omega arith))
    (ap (λ (x : List Abstract.Symbol). place_of (get_or l q zero_place) ∷ x)
    (places-are l p r n (suc q) (omega arith) (λ k m. f k (omega arith))))

-- ---- a row that keeps its bytes keeps its rule

module _ (p p' : List ℕ) (s : ℕ) (same : (b : ℕ) → b < rule_bytes → get_or p (rule_bytes * s + b) 0 ≡ get_or p' (rule_bytes * s + b) 0) where
  byte-same : (j b : ℕ) → j ≡ rule_bytes * s + b → b < rule_bytes → get_or p j 0 ≡ get_or p' j 0
  byte-same j b e h = ap (λ (x : ℕ). get_or p x 0) e ∙ same b h ∙ ap (λ (x : ℕ). get_or p' x 0) (sym e)

  left-same : left_in p s ≡ left_in p' s
  unfolding left_in
  left-same = byte-same (rule_bytes * s) 0 (omega arith) (omega arith)

  count_same : place_count p s ≡ place_count p' s
  unfolding place_count
  count_same = rw (left-same, byte-same (rule_bytes * s + 1) 1 refl (omega arith))

  symbol-same : (q : ℕ) → q < max_places → symbol_in p s q ≡ symbol_in p' s q
  unfolding symbol_in is_nonterminal_in is_range_in tag_in terminal_in value_in high_in
  symbol-same q h = rw (
    byte-same (rule_bytes * s + 2 + 2 * q) (2 + 2 * q) (omega arith) (omega arith),
    byte-same (rule_bytes * s + 3 + 2 * q) (3 + 2 * q) (omega arith) (omega arith),
    byte-same (rule_bytes * s + highs_at + q) (highs_at + q) (omega arith) (omega arith),
  )

  places_same : (n q : ℕ) → q + n ≤ max_places → places_from p s q n ≡ places_from p' s q n
  unfolding places_from
  places_same zero q h = refl
  places_same (suc n) q h = rw (symbol-same q (omega arith), places_same n (suc q) (omega arith))

  row_same : rule_in p s ≡ rule_in p' s
  unfolding rule_in places_in
  row_same = rw (left-same, places_same (place_count p s) 0 (omega (arith, count-le p s)), count_same)

-- ---- the whole rule

module _ (ρ : Rule) (r q : ℕ) (p₀ p : List ℕ) (full : length ρ.places ≡ max_places) (valid : valid_rule ρ ≡ true) (h : ρ.count ≤ q)
    (row : Row ρ r q (headed p₀ r ρ.left ρ.count) p) where
  count-is : place_count p r ≡ ρ.count
  count-is =
      omega (arith, count-used p r (omega (arith, row.left, (rule-parts ρ valid).0)), row.count, (rule-parts ρ valid).1)

  places-done : places_in p r ≡ map place_of (take ρ.count ρ.places)
  unfolding places_in
  places-done =
      ap (places_from p r 0) count-is
      ∙ places-are ρ.places p r ρ.count 0 (omega (arith, (rule-parts ρ valid).1)) (λ k l. row.places k (omega arith))

  rule-done : rule_in p r ≡ rule_of ρ
  rule-done = rule-used p r (omega (arith, row.left, (rule-parts ρ valid).0)) ∙ rw (row.left, places-done)

  pub row_done : RulePacked (rule_of ρ) r p₀ p
  row_done = record {
    long = row.long;
    here = rule-done;
    other = λ s d. row_same p p₀ s (λ b l. row.other s b d l ∙ headed-other p₀ r ρ.left ρ.count s b d l);
  }
