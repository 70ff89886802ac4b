-- Records written one after the other into a flat row, after the numbers that it already has. Assumes nothing.
use Prim.Native.Nat.{ℕ, ◌+◌, ◌*◌, ◌≤◌, ◌<◌}
use native.Mathlib.Omega.{arith}
use mathlib.Core.List.{List, [], ◌∷◌, ◌++◌, flat_map, append_assoc, append-nil}
use mathlib.Core.Path.{◌≡◌, refl, sym, ap, ◌∙◌}
use lib.ListN.{length, get_or, take, set, length-set}
use lib.Seq.{take_all}
use mir.Syntax.{w16}
use mir.Val.{SFits, to_z, of_z}
use mir.Facts.{to_z-of_z}
use Rattle.sizes.specs.Sizes.{max_rules, max_places}
use Rattle.theory_words.specs.Name.{name_size}
use Rattle.grammar.specs.declared.Place.{Place}
use Rattle.grammar.specs.declared.Rule.{Rule}
use Rattle.grammar.specs.declared.Grammar.{Grammar}
use Rattle.grammar.specs.Tagged.{tag_of, value_of, high_of}
use Rattle.numbers.specs.Numbers.{saturated, unsigned_of}
use Rattle.c_grammar.specs.Flat.{flat_place, flat_rule, flat_of, flat_size, years_at, rule_numbers}
use Rattle.c_grammar.proofs.Records.{put_one, put_two, put_three, flat_step, flat_byte, flat-bytes}

-- in f, the numbers before b are those of f₀, and the first q of the m elements of l follow, w numbers each
pub record Written {A : Type 0} (flat : A → List ℕ) (w b : ℕ) (l : List A) (m : ℕ) (f₀ : List ℕ) (q : ℕ) (f : List ℕ) : Type 0 where
  pub size : length l ≡ m
  pub low : q ≤ m
  pub long : length f ≡ flat_size
  pub front : take (b + w * q) f ≡ take b f₀ ++ flat_map flat (take q l)

module _ {A : Type 0} (flat : A → List ℕ) (w b : ℕ) (l : List A) (m : ℕ) where
  pub written_start : (f : List ℕ) → length l ≡ m → length f ≡ flat_size → Written flat w b l m f 0 f
  unfolding flat_map
  written_start f n h =
      let e : b + w * 0 ≡ b = omega arith in
      record { size = n; low = omega arith; long = h; front = ap (λ (k : ℕ). take k f) e ∙ sym (append-nil (take b f)) }

  pub written_step : (d : A) (q : ℕ) (f₀ f g : List ℕ) → Written flat w b l m f₀ q f → length g ≡ flat_size
      → take (b + w * q + w) g ≡ take (b + w * q) f ++ flat (get_or l q d) → q < m → Written flat w b l m f₀ (q + 1) g
  written_step d q f₀ f g r n e h =
      let k : b + w * (q + 1) ≡ b + w * q + w = omega arith in
      record {
        size = r.size;
        low = omega arith;
        long = n;
        front =
            ap (λ (j : ℕ). take j g) k
            ∙ flat_step flat l d q (take b f₀) (take (b + w * q) f) (take (b + w * q + w) g) (omega arith) r.front e;
      }

  -- all of l is written
  pub written_all : (q k : ℕ) (f₀ f : List ℕ) → m ≤ q → k ≡ b + w * q → Written flat w b l m f₀ q f
      → take k f ≡ take b f₀ ++ flat_map flat l
  written_all q k f₀ f h e r =
      ap (λ (j : ℕ). take j f) e ∙ r.front ∙ ap (λ (x : List A). take b f₀ ++ flat_map flat x) (take_all q l (omega arith))

-- ---- a place

pub place-done : (p : Place) (at : ℕ) (f : List ℕ) (t v u : ℕ) → at + 2 ≤ flat_size → length f ≡ flat_size
    → t ≡ tag_of p.symbol → v ≡ value_of p.symbol → u ≡ high_of p.symbol
    → take (at + 2) (set (set f at t) (at + 1) (v + 256 * u)) ≡ take at f ++ flat_place p
unfolding flat_place
place-done p at f t v u h n et ev eu =
    put_two f at (at + 1) (at + 2) t (v + 256 * u) refl refl (omega arith) ∙ λ i. take at f ++ (et i ∷ (ev i + 256 * eu i) ∷ [])

-- ---- the places and the name of a rule

pub places-done : (l : List Place) (at : ℕ) (f₀ f : List ℕ) (q : ℕ) → max_places ≤ q → Written flat_place 2 at l max_places f₀ q f
    → take (at + 2 * max_places) f ≡ take at f₀ ++ flat_map flat_place l
places-done l at f₀ f q h r = written_all flat_place 2 at l max_places q (at + 2 * max_places) f₀ f h (omega arith) r

-- one byte more of a name
pub name-step : (l : List ℕ) (at k b : ℕ) (f₀ f : List ℕ) → Written flat_byte 1 at l name_size f₀ k f → k < name_size → at + name_size ≤ flat_size
    → b ≡ get_or l k 0 → Written flat_byte 1 at l name_size f₀ (k + 1) (set f (at + k) b)
name-step l at k b f₀ f r h room is =
    let e : at + 1 * k ≡ at + k = omega arith in
    written_step flat_byte 1 at l name_size 0 k f₀ f (set f (at + k) b) r (length-set f (at + k) b ∙ r.long)
    (put_one f (at + k) (at + 1 * k + 1) b (omega arith) (omega (arith, r.long)) ∙ rw (e, is)) h

pub name_done : (l : List ℕ) (at : ℕ) (f₀ f : List ℕ) (k : ℕ) → name_size ≤ k → Written flat_byte 1 at l name_size f₀ k f
    → take (at + name_size) f ≡ take at f₀ ++ l
name_done l at f₀ f k h r =
    written_all flat_byte 1 at l name_size k (at + name_size) f₀ f h (omega (arith, r.low)) r
    ∙ ap (λ (x : List ℕ). take at f₀ ++ x) (flat-bytes l)

-- the years before the name
pub rest-done : (ρ : Rule) (at : ℕ) (f₀ f : List ℕ) → at + 2 + name_size ≤ flat_size → length f₀ ≡ flat_size
    → take (at + 2 + name_size) f ≡ take (at + 2) (set (set f₀ at ρ.first) (at + 1) ρ.last) ++ ρ.name
    → take (at + 2 + name_size) f ≡ take at f₀ ++ (ρ.first ∷ ρ.last ∷ ρ.name)
rest-done ρ at f₀ f low n e =
    e ∙ ap (λ (x : List ℕ). x ++ ρ.name) (put_two f₀ at (at + 1) (at + 2) ρ.first ρ.last refl refl (omega arith))
    ∙ append_assoc (take at f₀) (ρ.first ∷ ρ.last ∷ []) ρ.name

-- ---- a rule

-- f₁ has the places of the rule, and f₂ the whole rule
pub rule-done : (ρ : Rule) (at : ℕ) (f₀ f₁ f₂ : List ℕ) (u k : ℕ) → at + rule_numbers ≤ flat_size → length f₀ ≡ flat_size
    → SFits w16 ρ.length → u ≡ unsigned_of (to_z w16 (of_z w16 ρ.length)) → k ≡ saturated ρ.count
    → take (at + 3 + 2 * max_places) f₁
    ≡ take (at + 3) (set (set (set f₀ at ρ.left) (at + 1) u) (at + 2) k) ++ flat_map flat_place ρ.places
    → take (at + years_at + 2 + name_size) f₂ ≡ take (at + years_at) f₁ ++ (ρ.first ∷ ρ.last ∷ ρ.name)
    → take (at + rule_numbers) f₂ ≡ take at f₀ ++ flat_rule ρ
unfolding flat_rule
rule-done ρ at f₀ f₁ f₂ u k low n s eu ek places-in rest_in =
    let e : u ≡ unsigned_of ρ.length = eu ∙ ap unsigned_of (to_z-of_z s) in
    let a : at + rule_numbers ≡ at + years_at + 2 + name_size = omega arith in
    let b : at + years_at ≡ at + 3 + 2 * max_places = omega arith in
    let places = flat_map flat_place ρ.places in
    let rest = ρ.first ∷ ρ.last ∷ ρ.name in
    let front = ρ.left ∷ unsigned_of ρ.length ∷ saturated ρ.count ∷ [] in
    ap (λ (j : ℕ). take j f₂) a ∙ rest_in
    ∙ ap (λ (x : List ℕ). x ++ rest)
    (ap (λ (j : ℕ). take j f₁) b ∙ places-in
    ∙ ap (λ (x : List ℕ). x ++ places)
    (put_three f₀ at (at + 1) (at + 2) (at + 3) ρ.left u k (omega arith) (omega arith) (omega arith) (omega arith)
    ∙ λ i. take at f₀ ++ (ρ.left ∷ e i ∷ ek i ∷ [])))
    ∙ append_assoc (take at f₀ ++ front) places rest
    ∙ append_assoc (take at f₀) front (places ++ rest)

-- ---- a grammar

pub grammar-done : (g : Grammar) (f₀ f : List ℕ) (k r : ℕ) → length f₀ ≡ flat_size → max_rules ≤ r → k ≡ saturated g.count
    → Written flat_rule rule_numbers 3 g.rules max_rules (set (set (set f₀ 0 g.start) 1 k) 2 g.depth) r f → f ≡ flat_of g
unfolding flat_of
grammar-done g f₀ f k r n h ek w =
    sym (take_all flat_size f (omega (arith, w.long)))
    ∙ written_all flat_rule rule_numbers 3 g.rules max_rules r flat_size _ f h (omega arith) w
    ∙ ap (λ (x : List ℕ). x ++ flat_map flat_rule g.rules)
    (put_three f₀ 0 1 2 3 g.start k g.depth (omega arith) (omega arith) (omega arith) (omega arith)
    ∙ λ i. g.start ∷ ek i ∷ g.depth ∷ [])
