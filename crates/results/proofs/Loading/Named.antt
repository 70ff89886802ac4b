-- The name lookup: for a book that loads, it finds the name that the rule's record has, and nothing where it has none. Assumes nothing.
use Prim.Native.Nat.{ℕ, zero, suc, ◌+◌, ◌≤◌, ◌<◌}
use native.Mathlib.Omega.{arith}
use mathlib.Core.Bool.{true, false, and-false}
use mathlib.Core.List.{List}
use mathlib.Core.Option.{Option, none, some}
use mathlib.Core.Path.{◌≡◌, refl, sym, ap, ◌∙◌}
use lib.Dec.{eqb}
use lib.ListN.{length, get_or, take, drop, replicate, length-take}
use lib.Seq.{take-take}
use borrow.Author.Tests.{lt-ltb, eqb-true}
use Rattle.sizes.specs.Sizes.{max_rules}
use Rattle.laws.proofs.Bools.{clash, true-false, and_parts}
use Rattle.theory_words.specs.Name.{name_size, valid_name, unnamed, unfilled}
use Rattle.theory_words.proofs.Filled.{unfilled-front, unfilled-short}
use Rattle.theory_words.proofs.SameName.{valid-named}
use Rattle.grammar.specs.declared.Grammar.{Grammar}
use Rattle.grammar.specs.Zero.{zero_grammar, zero_rule, no_rule}
use Rattle.results.specs.Answer.{LoadAnswer, refused_at, loaded}
use Rattle.results.specs.Load.{with_start, with_rule, with_place, with_name, Fault, Step, stop, next, done, step}
use Rattle.results.specs.Load.{refused_load, accepted_load, run, load_of}
use Rattle.results.specs.Name.{empty_part, name_by, name_found, name_offset, part_from, name_part, name_of, record_name, recorded_name}
use Rattle.results.proofs.Loading.Run.{run-stop, run-next, run-done}
use Rattle.results.proofs.Loading.Commands.{Invariant, step-done, step_kept}
use Rattle.results.proofs.Loading.Valid.{size-invariant}
use Rattle.results.proofs.Loading.Renamed.{Renamed, given, opened, kept, step-renamed}

-- ---- one command of the lookup

module _ (n : ℕ) (bytes : List ℕ) (r at : ℕ) (g : Grammar) where
  -- how the lookup goes on after a step, if n more commands are allowed
  abbrev resume : Step → Option ℕ
  resume s = elim s
      [ stop f ↦ none | next at' g' ↦ name_by bytes r at g (name_found bytes r n at' g') | done g' ↦ none ]

  pub from-stop : (f : Fault) → step bytes at g ≡ stop f → name_found bytes r (suc n) at g ≡ none
  unfolding name_found
  from-stop f e = ap resume e

  pub from_next : (at' : ℕ) (g' : Grammar) → step bytes at g ≡ next at' g'
      → name_found bytes r (suc n) at g ≡ name_by bytes r at g (name_found bytes r n at' g')
  unfolding name_found
  from_next at' g' e = ap resume e

  pub from-done : (g' : Grammar) → step bytes at g ≡ done g' → name_found bytes r (suc n) at g ≡ none
  unfolding name_found
  from-done g' e = ap resume e

-- ---- what loading leaves in a record

-- what is read in a list of one element and past its end
replicate-or : {A : Type 0} (P : A → Type 0) (n : ℕ) (a d : A) → P a → P d → (i : ℕ) → P (get_or (replicate n a) i d)
replicate-or P zero a d p q i = q
replicate-or P (suc n) a d p q zero = p
replicate-or P (suc n) a d p q (suc i) = replicate-or P n a d p q i

-- a grammar has all its rule records, and uses no more
abbrev pub Room : Grammar → Type 0
Room g = (length g.rules ≡ max_rules) × (g.count ≤ max_rules)

pub room-invariant : (bytes : List ℕ) → Invariant bytes (λ at g. Room g)
unfolding with_start with_rule with_place with_name
room-invariant bytes = let kept = size-invariant bytes in record {
  zero = (kept.zero, omega arith);
  start = λ at g R e h. (kept.start at g R.0 e h, R.1);
  rule = λ at g R h m. (kept.rule at g R.0 h m, omega arith);
  years = λ at g R h y m. (kept.years at g R.0 h y m, omega arith);
  place = λ at g R s e u m h. (kept.place at g R.0 s e u m h, R.1);
  name = λ at g R m o r. (kept.name at g R.0 m o r, R.1);
}

-- rule r is one of G, and its name is the eight bytes from this offset on
pub record Recorded (bytes : List ℕ) (r : ℕ) (G : Grammar) (at : ℕ) : Type 0 where
  pub below : r < G.count
  pub whole : at + name_size ≤ length bytes
  pub name : record_name G r ≡ take name_size (drop at bytes)
  pub valid : valid_name (record_name G r) ≡ true

-- a name without its filling is within the bytes
pub recorded-within : (bytes : List ℕ) (r : ℕ) (G : Grammar) (at : ℕ) → Recorded bytes r G at
    → at + length (unfilled (take name_size (drop at bytes))) ≤ length bytes
recorded-within bytes r G at R =
    omega (arith, unfilled-short (take name_size (drop at bytes)), length-take name_size (drop at bytes), R.whole)

-- what the grammar G at the end has for rule r, by where the lookup found a name
abbrev pub Told : List ℕ → ℕ → Grammar → Option ℕ → Type 0
Told bytes r G none = unnamed (record_name G r) ≡ true
Told bytes r G (some at) = Recorded bytes r G at

module _ (bytes : List ℕ) (r : ℕ) where
  -- the rule keeps the name that it has
  abbrev Stays : (g G : Grammar) → Type 0
  Stays g G = (r < G.count) × (record_name G r ≡ record_name g r)

  stays_on : (g g' G : Grammar) → record_name g' r ≡ record_name g r → Stays g' G → Stays g G
  stays_on g g' G e S = (S.0, S.1 ∙ e)

  stays : (n at : ℕ) (g : Grammar) → Room g → r < g.count → unnamed (record_name g r) ≡ false → (run bytes n at g).answer ≡ loaded
      → Stays g (run bytes n at g).grammar
  unfolding run refused_load accepted_load
  stays zero at g R l u a = clash cc
  stays (suc n) at g R l u a = go (step bytes at g) refl (stays n)
    where
      go : (s : Step) → step bytes at g ≡ s
          → ((at' : ℕ) (g' : Grammar) → Room g' → r < g'.count → unnamed (record_name g' r) ≡ false → (run bytes n at' g').answer ≡ loaded
          → Stays g' (run bytes n at' g').grammar)
          → Stays g (run bytes (suc n) at g).grammar
      go (stop f) p later = let e = rw (run-stop n bytes at g f p) at a in clash cc
      go (done g') p later = rw (run-done n bytes at g g' p, (step-done bytes at g g' p).same) (l, refl)
      go (next at' g') p later = rw (run-next n bytes at g at' g' p) (on (step-renamed bytes r at g R.0 R.1 at' g' p))
        where
          on : Renamed bytes r at g g' → Stays g (run bytes n at' g').grammar
          on (given G) = absurd (true-false G.before u)
          on (opened m f z) = absurd (omega arith)
          on (kept m f h) = stays_on g g' (run bytes n at' g').grammar f
              (later at' g' (step_kept (room-invariant bytes) at g R at' g' p) (omega arith) (rw f u)
              (rw (run-next n bytes at g at' g' p) at a))

  told : (n at : ℕ) (g : Grammar) → Room g → unnamed (record_name g r) ≡ true → (run bytes n at g).answer ≡ loaded
      → Told bytes r (run bytes n at g).grammar (name_found bytes r n at g)
  unfolding run refused_load accepted_load
  told zero at g R u a = clash cc
  told (suc n) at g R u a = go (step bytes at g) refl (told n)
    where
      go : (s : Step) → step bytes at g ≡ s
          → ((at' : ℕ) (g' : Grammar) → Room g' → unnamed (record_name g' r) ≡ true → (run bytes n at' g').answer ≡ loaded
          → Told bytes r (run bytes n at' g').grammar (name_found bytes r n at' g'))
          → Told bytes r (run bytes (suc n) at g).grammar (name_found bytes r (suc n) at g)
      go (stop f) p later = let e = rw (run-stop n bytes at g f p) at a in clash cc
      go (done g') p later = rw (run-done n bytes at g g' p, from-done n bytes r at g g' p, (step-done bytes at g g' p).same) u
      go (next at' g') p later = rw (run-next n bytes at g at' g' p, from_next n bytes r at g at' g' p)
          (on (step-renamed bytes r at g R.0 R.1 at' g' p))
        where
          room : Room g'
          room = step_kept (room-invariant bytes) at g R at' g' p

          accepted : (run bytes n at' g').answer ≡ loaded
          accepted = rw (run-next n bytes at g at' g' p) at a

          on : Renamed bytes r at g g'
              → Told bytes r (run bytes n at' g').grammar (name_by bytes r at g (name_found bytes r n at' g'))
          on (opened m f z) = rw m (later at' g' room z accepted)
          on (kept m f h) = rw m (later at' g' room (rw f u) accepted)
          on (given G) =
              let last = eqb-true g.count (suc r) (and_parts (eqb (get_or bytes at 0) 0x60) (eqb g.count (suc r)) G.names).1 in
              let S = stays n at' g' room (omega (arith, G.count)) (valid-named (record_name g' r) G.valid) accepted in
              rw G.names (record { below = S.0; whole = G.whole; name = S.1 ∙ G.name; valid = rw S.1 G.valid })

  pub part-refused : (n o : ℕ) → (load_of bytes).answer ≡ refused_at n o → name_part bytes r ≡ empty_part
  unfolding name_part
  part-refused n o e = rw (e, name_part)

  module _ (accepted : (load_of bytes).answer ≡ loaded) where
    pub name-told : Told bytes r (load_of bytes).grammar (name_offset bytes r)
    unfolding load_of unnamed
    name-told = told (length bytes) 0 zero_grammar (room-invariant bytes).zero
        (replicate-or (λ a. unnamed a.name ≡ true) max_rules zero_rule no_rule refl refl r) accepted

    pub part-loaded : name_part bytes r ≡ part_from bytes (name_offset bytes r)
    unfolding name_part
    part-loaded = rw (accepted, name_part)

    -- the part of a name is its front
    front : (at : ℕ) → at + name_size ≤ length bytes
        → take (part_from bytes (some at)).length (drop at bytes) ≡ unfilled (take name_size (drop at bytes))
    front at h =
        let name = take name_size (drop at bytes) in
        let few = unfilled-short name in
        let size = length-take name_size (drop at bytes) in
        sym (take-take (length (unfilled name)) name_size (drop at bytes) (omega arith)) ∙ sym (unfilled-front name)

    pub name-recorded : name_of bytes r ≡ recorded_name (load_of bytes).grammar r
    unfolding name_of
    name-recorded = rw part-loaded (go (name_offset bytes r) name-told)
      where
        go : (o : Option ℕ) → Told bytes r (load_of bytes).grammar o
            → take (part_from bytes o).length (drop (part_from bytes o).offset bytes) ≡ recorded_name (load_of bytes).grammar r
        go none u = rw (u, and-false)
        go (some at) T = rw (valid-named _ T.valid, lt-ltb r _ T.below, T.name) (front at T.whole)

  pub part-within : (name_part bytes r).offset + (name_part bytes r).length ≤ length bytes
  part-within = go (load_of bytes).answer refl
    where
      told-within : (o : Option ℕ) → Told bytes r (load_of bytes).grammar o
          → (part_from bytes o).offset + (part_from bytes o).length ≤ length bytes
      told-within none T = omega arith
      told-within (some at) T = recorded-within bytes r (load_of bytes).grammar at T

      go : (a : LoadAnswer) → (load_of bytes).answer ≡ a → (name_part bytes r).offset + (name_part bytes r).length ≤ length bytes
      go loaded e = rw (part-loaded e) (told-within (name_offset bytes r) (name-told e))
      go (refused_at n o) e = rw (part-refused n o e) (omega arith)
