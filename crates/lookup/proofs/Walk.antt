-- The loop of the lookup: what holds after each command of a book that loads, why the next command keeps it, and what follows where the
-- name begins and at the end. Assumes nothing.
use Prim.Native.Nat.{ℕ, zero, suc, ◌+◌, ◌-◌, ◌^◌, ◌≤◌, ◌<◌}
use native.Mathlib.Decide.{ℕ_discrete}
use native.Mathlib.Omega.{arith}
use mathlib.Core.Bool.{Bool, true, false, cond, ◌&&◌}
use mathlib.Core.List.{List}
use mathlib.Core.Logic.{dite}
use mathlib.Core.Option.{none, some}
use mathlib.Core.Path.{◌≡◌, refl, sym, ap, ◌∙◌, subst}
use lib.Dec.{eqb, ltb}
use lib.ListN.{length, get_or}
use borrow.Author.Tests.{le-ltb, eq-eqb, ne_eqb}
use mir.Syntax.{w64}
use mir.Val.{Fits}
use Rattle.sizes.specs.Sizes.{max_rules}
use Rattle.laws.proofs.Bools.{clash, true-false}
use Rattle.grammar.specs.declared.Grammar.{Grammar}
use Rattle.grammar.specs.Zero.{zero_grammar}
use Rattle.results.specs.Answer.{loaded}
use Rattle.results.specs.Load.{operands, unknown, opens_rule, Step, stop, next, done, step, refused_load, run, load_of}
use Rattle.results.specs.Name.{name_by, name_found, name_offset}
use Rattle.results.proofs.Loading.Run.{run-stop, run-next, step_past}
use Rattle.results.proofs.Loading.Commands.{step-done, step_kept}
use Rattle.results.proofs.Loading.Renamed.{step-moved}
use Rattle.results.proofs.Loading.Named.{Room, room-invariant, from_next, from-done}
use Rattle.load_commands.specs.Class.{byte_of}
use Rattle.load_commands.specs.declared.opcode.Opcode.{Opcode}

-- ---- the open rule

pub open-last : (n r : ℕ) → 0 < n → eqb (n - 1) r ≡ eqb n (suc r)
open-last n r h = dite (ℕ_discrete n (suc r))
    (λ e. eq-eqb (n - 1) r (omega arith) ∙ sym (eq-eqb n (suc r) e))
    (λ e. ne_eqb (n - 1) r (omega arith) ∙ sym (ne_eqb n (suc r) e))

pub open_none : (n r : ℕ) → n ≤ 0 → ltb 0 n ≡ eqb n (suc r)
open_none n r h = le-ltb 0 n h ∙ sym (ne_eqb n (suc r) (omega arith))

-- ---- what is left of a book that loads

-- the rest of the book is loaded from some grammar of this many rules, and the lookup goes on from there
pub record Going (bytes : List ℕ) (r at rules : ℕ) : Type 0 where
  pub left : ℕ
  pub grammar : Grammar
  pub count : grammar.count ≡ rules
  pub room : Room grammar
  pub accepted : (run bytes left at grammar).answer ≡ loaded
  pub same : name_found bytes r left at grammar ≡ name_offset bytes r

-- before the command at an offset, or at the end of the book
pub record Walk (bytes : List ℕ) (r at rules : ℕ) : Type 0 where
  pub few : rules ≤ max_rules
  pub going : at < length bytes → Going bytes r at rules
  pub ended : length bytes ≤ at → name_offset bytes r ≡ none

-- a rest that loads is not empty
not-past : (bytes : List ℕ) (r at rules : ℕ) → Going bytes r at rules → length bytes ≤ at → ⊥
unfolding run refused_load
not-past bytes r at rules G h = go G.left G.accepted
  where
    go : (n : ℕ) → (run bytes n at G.grammar).answer ≡ loaded → ⊥
    go zero a = clash cc
    go (suc n) a = let e = rw (run-stop n bytes at G.grammar _ (step_past bytes at G.grammar h)) at a in clash cc

walk_of : (bytes : List ℕ) (r at rules : ℕ) → Going bytes r at rules → Walk bytes r at rules
walk_of bytes r at rules G = record {
  few = omega (arith, G.room.1, G.count);
  going = λ h. G;
  ended = λ h. absurd (not-past bytes r at rules G h);
}

pub walk_first : (bytes : List ℕ) (r : ℕ) → (load_of bytes).answer ≡ loaded → Walk bytes r 0 0
unfolding load_of
walk_first bytes r a = walk_of bytes r 0 0 (record {
  left = length bytes;
  grammar = zero_grammar;
  count = refl;
  room = (room-invariant bytes).zero;
  accepted = a;
  same = refl;
})

-- ---- one command

-- the command at an offset of a book that loads: it is the last one, or the book goes on after it
pub data Onward (bytes : List ℕ) (r at rules : ℕ) : Type 0 where
  last : get_or bytes at 0 ≡ 0x50 → at + 1 ≡ length bytes → none ≡ name_offset bytes r → Onward bytes r at rules
  onward : unknown (get_or bytes at 0) ≡ false → at + 1 + operands (get_or bytes at 0) ≤ length bytes
      → ((eqb (get_or bytes at 0) 0x60 && eqb rules (suc r)) ≡ true → some (at + 1) ≡ name_offset bytes r)
      → ((eqb (get_or bytes at 0) 0x60 && eqb rules (suc r)) ≡ false
      → Going bytes r (at + 1 + operands (get_or bytes at 0)) (cond (opens_rule (get_or bytes at 0)) (rules + 1) rules))
      → Onward bytes r at rules

module _ (bytes : List ℕ) (r at : ℕ) where
  module _ (g : Grammar) (room : Room g) (n : ℕ) (a : (run bytes (suc n) at g).answer ≡ loaded)
      (m : name_found bytes r (suc n) at g ≡ name_offset bytes r) where
    onward-step : (s : Step) → step bytes at g ≡ s → Onward bytes r at g.count
    unfolding refused_load
    onward-step (stop f) e = let x = rw (run-stop n bytes at g f e) at a in clash cc
    onward-step (done g') e =
        let E = step-done bytes at g g' e in
        last E.command E.last (sym (from-done n bytes r at g g' e) ∙ m)
    onward-step (next at' g') e =
        let M = step-moved bytes at g at' g' e in
        let f : name_by bytes r at g (name_found bytes r n at' g') ≡ name_offset bytes r = sym (from_next n bytes r at g at' g' e) ∙ m in
        onward M.known (omega (arith, M.ahead, M.whole)) (λ t. rw t at f)
        (λ t. subst (λ (k : ℕ). Going bytes r k (cond (opens_rule (get_or bytes at 0)) (g.count + 1) g.count)) M.ahead (record {
          left = n;
          grammar = g';
          count = M.rules;
          room = step_kept (room-invariant bytes) at g room at' g' e;
          accepted = rw (run-next n bytes at g at' g' e) at a;
          same = rw t at f;
        }))

  onward-of : (rules : ℕ) → Going bytes r at rules → Onward bytes r at rules
  unfolding run refused_load
  onward-of rules G = subst (Onward bytes r at) G.count (go G.left G.accepted G.same)
    where
      go : (n : ℕ) → (run bytes n at G.grammar).answer ≡ loaded → name_found bytes r n at G.grammar ≡ name_offset bytes r
          → Onward bytes r at G.grammar.count
      go zero a m = clash cc
      go (suc n) a m = onward-step G.grammar G.room n a m (step bytes at G.grammar) refl

  -- by the command's byte
  module _ (rules : ℕ) (W : Walk bytes r at rules) (h : at < length bytes) where
    pub never-unknown : unknown (get_or bytes at 0) ≡ true → none ≡ name_offset bytes r
    never-unknown u = go (onward-of rules (W.going h))
      where
        go : Onward bytes r at rules → none ≡ name_offset bytes r
        go (last b l m) = m
        go (onward b w f o) = absurd (true-false u b)

    module _ (k : Opcode) (e : byte_of k ≡ get_or bytes at 0) where
      pub walk-room : (n : ℕ) → n ≡ operands (byte_of k) → at + (1 + n) ≤ length bytes
      unfolding operands
      walk-room n p = go (onward-of rules (W.going h))
        where
          same : n ≡ operands (get_or bytes at 0)
          same = p ∙ ap operands e

          go : Onward bytes r at rules → at + (1 + n) ≤ length bytes
          go (last b l m) = let z = same ∙ ap operands b in omega arith
          go (onward b w f o) = omega (arith, same)

      pub walk-fits : (n : ℕ) → n ≡ operands (byte_of k) → length bytes < 2 ^ 64 → Fits w64 (at + (1 + n))
      walk-fits n p l = record { fits = omega (arith, walk-room n p) }

      pub size_fits : (n : ℕ) → n ≡ operands (byte_of k) → length bytes < 2 ^ 64 → Fits w64 (1 + n)
      size_fits n p l = record { fits = omega (arith, walk-room n p) }

      pub walk-found : (b : Bool) → b ≡ (eqb (byte_of k) 0x60 && eqb rules (suc r)) → b ≡ true → some (at + 1) ≡ name_offset bytes r
      walk-found b p t = go (onward-of rules (W.going h))
        where
          same : (eqb (get_or bytes at 0) 0x60 && eqb rules (suc r)) ≡ true
          same = ap (λ (c : ℕ). eqb c 0x60 && eqb rules (suc r)) (sym e) ∙ sym p ∙ t

          go : Onward bytes r at rules → some (at + 1) ≡ name_offset bytes r
          go (last d l m) = let z = rw d at same in clash cc
          go (onward d w f o) = f same

      pub walk-on : (b : Bool) → b ≡ (eqb (byte_of k) 0x60 && eqb rules (suc r)) → b ≡ false
          → (m n : ℕ) → m ≡ cond (opens_rule (byte_of k)) (rules + 1) rules → n ≡ operands (byte_of k) → Walk bytes r (at + (1 + n)) m
      unfolding operands
      walk-on b p t m n j q = go (onward-of rules (W.going h))
        where
          other : (eqb (get_or bytes at 0) 0x60 && eqb rules (suc r)) ≡ false
          other = ap (λ (c : ℕ). eqb c 0x60 && eqb rules (suc r)) (sym e) ∙ sym p ∙ t

          many : m ≡ cond (opens_rule (get_or bytes at 0)) (rules + 1) rules
          many = j ∙ ap (λ (c : ℕ). cond (opens_rule c) (rules + 1) rules) e

          size : n ≡ operands (get_or bytes at 0)
          size = q ∙ ap operands e

          go : Onward bytes r at rules → Walk bytes r (at + (1 + n)) m
          go (onward d w f o) = let ahead : at + 1 + operands (get_or bytes at 0) ≡ at + (1 + n) = omega (arith, size) in
              walk_of bytes r (at + (1 + n)) m (subst (λ (x : ℕ). Going bytes r (at + (1 + n)) x) (sym many)
              (subst (λ (x : ℕ). Going bytes r x (cond (opens_rule (get_or bytes at 0)) (rules + 1) rules)) ahead (o other)))
          go (last d l x) =
              let one = size ∙ ap operands d in
              let same : m ≡ rules = many ∙ ap (λ (x : ℕ). cond (opens_rule x) (rules + 1) rules) d in
              record { few = omega (arith, W.few); going = λ z. absurd (omega arith); ended = λ z. sym x }
