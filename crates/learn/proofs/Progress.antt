-- The loop of learning: what holds after each command, why the next command keeps it, and what follows from it at the end and at a fault.
-- The laws are those of loading, for a rule that is added to an old grammar. Assumes nothing.
use Prim.Native.Nat.{ℕ, suc, ◌+◌, ◌*◌, ◌-◌, ◌≤◌, ◌<◌}
use native.Mathlib.Omega.{arith}
use mathlib.Core.Bool.{Bool, true, false}
use mathlib.Core.List.{List, map}
use mathlib.Core.Path.{◌≡◌, refl, sym, ap, ◌∙◌, subst}
use Rattle.std.specs.Prelude.{Result, Ok, Err}
use lib.IntN.{ℤ}
use lib.ListN.{length, get_or, take, set}
use Rattle.sizes.specs.Sizes.{max_rules}
use Rattle.numbers.specs.Numbers.{signed_in}
use Rattle.theory_words.specs.Name.{has_name}
use Rattle.names.specs.Word.{word_of, has_word}
use Rattle.grammar.specs.declared.Symbol.{Symbol}
use Rattle.grammar.specs.declared.Rule.{Rule}
use Rattle.grammar.specs.declared.Grammar.{Grammar}
use Rattle.grammar.specs.Setters.{opened_rule, placed_rule, set_name, set_start, set_count, set_rule}
use Rattle.grammar.specs.Valid.{names_of, valid_grammar}
use Rattle.grammar.specs.Zero.{no_rule}
use Rattle.grammar.proofs.Bounds.{valid-count}
use Rattle.answers.specs.declared.Fault as Declared
use Rattle.answers.specs.Number.{number_of}
use Rattle.theory_tidying.specs.Tidying.{tidied}
use Rattle.theory_tidying.proofs.Tidied.{tidied-size}
use Rattle.theory_tidying.proofs.Named.{tidied-valid}
use Rattle.results.specs.Load.{Fault, Step, signed, next, stop, accepted_load, open_rule, with_name}
use Rattle.results.specs.Learn.{learn_step, learn_run, enlarged}
use Rattle.results.proofs.Loading.Changes.{start-set, rule-set, place_set, name_set}
use Rattle.results.proofs.Loading.Valid.{valid-invariant, size-invariant}
use Rattle.results.proofs.Learning.Run.{learn-stop, learn-next, learn-done, learn-forward, learn-fuel, enlarged-some}
use Rattle.results.proofs.Learning.Commands.{learn-kept, learn-invariant}
use Rattle.load_commands.specs.Command.{name_from, step_of, Bounded}
use Rattle.load_commands.specs.declared.opcode.Command.{Command}
use Rattle.load_commands.specs.declared.opcode.Command.TheVariants as C
use Rattle.load_commands.specs.declared.opcode.Header.{Header}
use Rattle.load.proofs.Words.{rule_word, word_set, word_kept, word-open, word-compared}
use Rattle.learn.specs.Command.{LearnRead}
use Rattle.learn.specs.Reading.{reading_of, fault_in, name_words}
use Rattle.learn.specs.declared.reading.Enlarged.{Enlarged}
use Rattle.learn.proofs.Joined.{Enlarges, joins-fault, joins-end}

-- ---- the loop

-- before the command at an offset: reading on from here gives what the bytes make of the old grammar, the grammar read so far is valid, it
-- has an open rule after the first command, and the row has the words of its names
pub record Progress (old : Grammar) (bytes : List ℕ) (at : ℕ) (row : List ℕ) (g : Grammar) : Type 0 where
  pub within : at ≤ length bytes
  pub reached : learn_run bytes (suc (length bytes - at)) at g ≡ enlarged old bytes
  pub valid : valid_grammar g ≡ true
  pub few : g.count ≤ max_rules
  pub size : length g.rules ≡ max_rules
  pub opened : 0 < at → 0 < g.count
  pub words : row ≡ map rule_word g.rules

pub progress-first : (old : Grammar) (bytes row : List ℕ) (g : Grammar) → length old.rules ≡ max_rules → valid_grammar old ≡ true
    → 0 < length bytes → row ≡ name_words (tidied old) → g ≡ tidied old → Progress old bytes 0 row g
progress-first old bytes row g long v z w e = subst (Progress old bytes 0 row) (sym e) (record {
  within = omega arith;
  reached = learn-fuel bytes (suc (length bytes - 0)) (length bytes) 0 (tidied old) (omega arith) (omega arith)
      ∙ sym (enlarged-some old bytes z);
  valid = valid;
  few = valid-count (tidied old) valid;
  size = tidied-size old (omega (arith, valid-count old v)) (valid-count old v);
  opened = λ p. absurd (omega arith);
  words = w;
})
  where
    valid : valid_grammar (tidied old) ≡ true
    valid = tidied-valid old v

-- the length of a rule, as the code reads it
signed-bytes : (low high : ℕ) → signed_in (low + 256 * high) ≡ signed low high
unfolding signed signed_in
signed-bytes low high = refl

module _ (old : Grammar) (bytes : List ℕ) (at : ℕ) (row : List ℕ) (g : Grammar) (P : Progress old bytes at row g) where
  -- a fault
  faults : (e : Enlarged) (x : Fault) → learn_step bytes at g ≡ stop x → valid_grammar old ≡ true → reading_of e ≡ fault_in old x
      → Enlarges old bytes e
  faults e x k v r = joins-fault old bytes v e x (sym (learn-stop (length bytes - at) bytes at g x k) ∙ P.reached) r

  -- what was read, where q is the number of the last rule
  module _ (q : ℕ) (f : q ≡ g.count - 1) where
    means : (r : Result Command Declared.Fault)
        → LearnRead bytes at g.count (get_or g.rules q no_rule).count (get_or row q 0) r → step_of bytes r at g ≡ learn_step bytes at g
    unfolding open_rule
    means r R = R.means g refl (ap (λ (i : ℕ). (get_or g.rules i no_rule).count) (sym f)) (sym (word-open g row P.words q f))

    pub enlarges-fault : (x : Declared.Fault) → LearnRead bytes at g.count (get_or g.rules q no_rule).count (get_or row q 0) (Err x)
        → valid_grammar old ≡ true → (l : Enlarged)
        → reading_of l ≡ fault_in old (record { number = number_of x.refusal; offset = x.at }) → Enlarges old bytes l
    enlarges-fault x R v l F = faults l _ (sym (means (Err x) R)) v F

  -- the command c that was read
  module _ (q : ℕ) (c : Command) (f : q ≡ g.count - 1)
      (R : LearnRead bytes at g.count (get_or g.rules q no_rule).count (get_or row q 0) (Ok c)) where
    goes : (m : Command) (s : Step) → c ≡ m → step_of bytes (Ok m) at g ≡ s → learn_step bytes at g ≡ s
    goes m s e k = sym (means q f (Ok c) R) ∙ ap (λ (n : Command). step_of bytes (Ok n) at g) e ∙ k

    progress-next : (m : Command) (at' : ℕ) (row' : List ℕ) (g' h : Grammar) → c ≡ m → step_of bytes (Ok m) at g ≡ next at' g'
        → at' ≤ length bytes → row' ≡ map rule_word h.rules → h ≡ g' → Progress old bytes at' row' h
    progress-next m at' row' g' h e s l W i =
        subst (λ (x : Grammar). row' ≡ map rule_word x.rules → Progress old bytes at' row' x) (sym i)
        (λ U. record {
          within = l;
          reached = learn-fuel bytes (suc (length bytes - at')) (length bytes - at) at' g' (omega arith) fewer
              ∙ sym (learn-next (length bytes - at) bytes at g at' g' k) ∙ P.reached;
          valid = valid.0;
          few = valid-count g' valid.0;
          size = (learn-kept (learn-invariant (size-invariant bytes)) at g (P.size, P.opened) at' g' k).0;
          opened = valid.1;
          words = U;
        }) W
      where
        k : learn_step bytes at g ≡ next at' g'
        k = goes m (next at' g') e s

        fewer : length bytes - at' ≤ length bytes - at
        fewer = let f = learn-forward bytes at g at' g' k in omega arith

        valid : (valid_grammar g' ≡ true) × (0 < at' → 0 < g'.count)
        valid = learn-kept (learn-invariant (valid-invariant bytes)) at g (P.valid, P.opened) at' g' k

    abbrev bounded : (m : Command) → c ≡ m → Bounded bytes at g.count (get_or g.rules q no_rule).count (Ok m)
    bounded m e = subst (λ (x : Command). Bounded bytes at g.count (get_or g.rules q no_rule).count (Ok x)) e R.bounded

    pub progress_start : (k : ℕ) → c ≡ C.Start k → Progress old bytes (at + 2) row (set_start g k)
    progress_start k e = progress-next (C.Start k) _ _ _ _ e refl (bounded (C.Start k) e) P.words (start-set g k)

    pub progress-rule : (o : Header) (n : ℕ) (r : Rule) → c ≡ C.Rule o n
        → r ≡ opened_rule o.left (signed_in (o.low + 256 * o.high)) o.first o.last
        → Progress old bytes (at + n) (set row g.count 0) (set_count (set_rule g g.count r) (g.count + 1))
    unfolding word_of
    progress-rule o n r e i =
        let s = signed-bytes o.low o.high in
        progress-next (C.Rule o n) _ _ _ _ e refl (bounded (C.Rule o n) e).1
        (word_set g.rules row P.words g.count 0 r (sym (ap rule_word i)))
        (ap (λ (m : Rule). set_count (set_rule g g.count m) (g.count + 1))
        (i ∙ ap (λ (z : ℤ). opened_rule o.left z o.first o.last) s)
        ∙ rule-set g o.left (signed o.low o.high) o.first o.last)

    pub progress-place : (s : Symbol) (n : ℕ) (r : Rule) → c ≡ C.Place s n → r ≡ placed_rule (get_or g.rules q no_rule) s
        → Progress old bytes (at + n) row (set_rule g q r)
    unfolding open_rule
    progress-place s n r e o =
        progress-next (C.Place s n) _ _ _ _ e refl (bounded (C.Place s n) e).1
        (word_kept g.rules row P.words q r (ap (λ (x : Rule). x.name) o))
        (ap (set_rule g q) o ∙ ap (λ (i : ℕ). set_rule g i (placed_rule (get_or g.rules i no_rule) s)) f ∙ place_set g s)

    -- a name: whether its word w is among those of the used rules
    module _ (first w : ℕ) (e : c ≡ C.Name first w) (b : Bool) (B : b ≡ has_word w (take g.count row)) where
      compared : has_name (name_from bytes first) (names_of g) ≡ b
      compared = sym (B ∙ ap (λ (x : ℕ). has_word x (take g.count row)) (bounded (C.Name first w) e).3
          ∙ word-compared g row P.words (name_from bytes first) P.valid (bounded (C.Name first w) e).2)

      pub progress-name : b ≡ false → (r : Rule) → r ≡ set_name (get_or g.rules q no_rule) (name_from bytes first)
          → Progress old bytes (at + 9) (set row q w) (set_rule g q r)
      unfolding open_rule
      progress-name n r o =
          progress-next (C.Name first w) _ _ (with_name g (name_from bytes first)) _ e (rw (compared, n)) (bounded (C.Name first w) e).1
          (word_set g.rules row P.words q w r ((bounded (C.Name first w) e).3 ∙ ap rule_word (sym o)))
          (ap (set_rule g q) o ∙ ap (λ (i : ℕ). set_rule g i (set_name (get_or g.rules i no_rule) (name_from bytes first))) f
          ∙ name_set g (name_from bytes first))

      pub enlarges-name : b ≡ true → valid_grammar old ≡ true → (l : Enlarged)
          → reading_of l ≡ fault_in old (record { number = 17; offset = at }) → Enlarges old bytes l
      enlarges-name y v l F = faults l (record { number = 17; offset = at }) (goes (C.Name first w) _ e (rw (compared, y))) v F

    pub enlarges-end : c ≡ C.End → (l : Enlarged) → reading_of l ≡ accepted_load g → Enlarges old bytes l
    enlarges-end e l A =
        joins-end old bytes l g P.valid (sym (learn-done (length bytes - at) bytes at g g (goes C.End _ e refl)) ∙ P.reached) A
