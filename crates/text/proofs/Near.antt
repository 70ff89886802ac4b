-- Each offset that is reached is near the start of the book: one start, at most 128 rules, and at most 8 places and one name of each
-- come before it. Assumes nothing.
use Prim.Native.Nat.{ℕ, ◌+◌, ◌*◌, ◌-◌, ◌≤◌, ◌<◌}
use native.Mathlib.Omega.{arith}
use mathlib.Core.Bool.{Bool, true, false, cond, not}
use mathlib.Core.List.{List}
use mathlib.Core.Path.{◌≡◌, refl, ap, ◌∙◌}
use lib.IntN.{ℤ}
use lib.ListN.{length}
use Rattle.sizes.specs.Sizes.{max_rules, max_places}
use Rattle.theory_words.specs.Name.{valid_name, unnamed}
use Rattle.theory_words.proofs.SameName.{valid-named}
use Rattle.grammar.specs.declared.Symbol.{Symbol}
use Rattle.grammar.specs.declared.Rule.{Rule}
use Rattle.grammar.specs.declared.Grammar.{Grammar}
use Rattle.grammar.specs.Setters.{opened_rule, placed_rule, set_name}
use Rattle.grammar.specs.Zero.{zero_grammar}
use Rattle.grammar.proofs.Setters.{set-rule-size, set-rule-at}
use Rattle.results.specs.Load.{operand, given_name, open_rule, with_start, with_rule, with_place, with_name, open_named}
use Rattle.results.proofs.Loading.Commands.{Invariant, place_size, place-few, unrefused-valid}

-- the bytes of the command that names the open rule, if it has a name
abbrev pub name_bytes : Bool → ℕ
name_bytes named = cond named 9 0

-- an offset, and the grammar read before it. The start takes at most 4 bytes, a rule with its places and its name at most 41, a place at
-- most 3, and a name 9
pub record Near (at : ℕ) (g : Grammar) : Type 0 where
  pub few : g.count ≤ max_rules
  pub size : length g.rules ≡ max_rules
  pub places : (open_rule g).count ≤ max_places
  pub near : at ≤ 4 + 41 * g.count + 3 * (open_rule g).count + name_bytes (open_named g)

near-zero : Near 0 zero_grammar
unfolding open_rule open_named
near-zero = record { few = omega arith; size = refl; places = omega arith; near = omega arith }

pub name-few : (b : Bool) → name_bytes b ≤ 9
name-few true = omega arith
name-few false = omega arith

-- ---- the commands

module _ (at : ℕ) (g : Grammar) (N : Near at g) where
  start-near : (k at' : ℕ) → at' ≤ 4 → Near at' (with_start g k)
  unfolding with_start open_rule open_named
  start-near k at' h = record { few = N.few; size = N.size; places = N.places; near = omega arith }

  rule-open : (k : ℕ) (z : ℤ) (first last : ℕ) → g.count < max_rules → (open_rule (with_rule g k z first last)).count ≡ 0
  unfolding with_rule open_rule
  rule-open k z first last h =
      let e : g.count + 1 - 1 ≡ g.count = omega arith in
      let s = N.size in
      rw e (ap (λ (r : Rule). r.count) (set-rule-at g g.count (opened_rule k z first last) (omega arith)))

  rule-near : (k : ℕ) (z : ℤ) (first last size : ℕ) → size ≤ 8 → g.count < max_rules → Near (at + size) (with_rule g k z first last)
  unfolding with_rule
  rule-near k z first last size b h =
      let e = rule-open k z first last h in
      let o = N.places in
      let n = N.near in
      let f = name-few (open_named g) in
      let s = set-rule-size g g.count (opened_rule k z first last) ∙ N.size in
      record { few = omega arith; size = s; places = omega arith; near = omega arith }

  place-open : (s : Symbol) → (open_rule (with_place g s)).count ≡ (open_rule g).count + 1
  unfolding with_place open_rule
  place-open s =
      let f = N.few in
      let z = N.size in
      ap (λ (r : Rule). r.count) (set-rule-at g (g.count - 1) (placed_rule (open_rule g) s) (omega arith))

  place-named : (s : Symbol) → open_named (with_place g s) ≡ open_named g
  unfolding with_place open_rule open_named
  place-named s =
      let f = N.few in
      let z = N.size in
      ap (λ (r : Rule). not (unnamed r.name)) (set-rule-at g (g.count - 1) (placed_rule (open_rule g) s) (omega arith))

  place-near : (s : Symbol) → (open_rule g).count < max_places → Near (at + place_size s) (with_place g s)
  unfolding with_place
  place-near s h =
      let e = place-open s in
      let f = ap name_bytes (place-named s) in
      let few = place-few s in
      let n = N.near in
      let z = set-rule-size g (g.count - 1) (placed_rule (open_rule g) s) ∙ N.size in
      record { few = N.few; size = z; places = omega arith; near = omega arith }

  -- the open rule with this name
  name-open : (name : List ℕ) → open_rule (with_name g name) ≡ set_name (open_rule g) name
  unfolding with_name open_rule
  name-open name =
      let f = N.few in
      let z = N.size in
      set-rule-at g (g.count - 1) (set_name (open_rule g) name) (omega arith)

  name-near : (name : List ℕ) → open_named g ≡ false → valid_name name ≡ true → Near (at + 9) (with_name g name)
  unfolding with_name open_named
  name-near name o v =
      let e = ap (λ (r : Rule). r.count) (name-open name) in
      let b = ap name_bytes o in
      let f = ap (λ (r : Rule). name_bytes (not (unnamed r.name))) (name-open name) in
      let z = set-rule-size g (g.count - 1) (set_name (open_rule g) name) ∙ N.size in
      let n = N.near in
      let p = N.places in
      let u = ap (λ (b : Bool). name_bytes (not b)) (valid-named name v) in
      record { few = N.few; size = z; places = omega arith; near = omega arith }

pub near-invariant : (bytes : List ℕ) → Invariant bytes Near
near-invariant bytes = record {
  zero = near-zero;
  start = λ at g N e h. start-near at g N (operand bytes at 0) (at + 2) (omega arith);
  rule = λ at g N h m. rule-near at g N (operand bytes at 0) _ _ _ 4 (omega arith) m;
  years = λ at g N h y m. rule-near at g N (operand bytes at 0) _ _ _ 8 (omega arith) m;
  place = λ at g N s e u m h. place-near at g N s h;
  name = λ at g N m o r. name-near at g N (given_name (operand bytes at)) o (unrefused-valid g (given_name (operand bytes at)) r);
}
