-- The loop of loading: what holds after each command, why the next command keeps it, and what follows from it at the end and at a fault.
-- Assumes nothing.
use Prim.Native.Nat.{ℕ, suc, ◌+◌, ◌*◌, ◌-◌, ◌≤◌}
use native.Mathlib.Omega.{arith}
use mathlib.Core.Bool.{Bool, true, false}
use mathlib.Core.List.{List, map}
use mathlib.Core.Path.{◌≡◌, refl, sym, ap, ◌∙◌, subst}
use Rattle.std.specs.Prelude.{Result, Ok, Err}
use lib.IntN.{ℤ}
use lib.ListN.{length, get_or, take, replicate, set}
use Rattle.sizes.specs.Sizes.{max_rules}
use Rattle.numbers.specs.Numbers.{signed_in}
use Rattle.theory_words.specs.Name.{has_name}
use Rattle.names.specs.Word.{word_of, has_word}
use Rattle.grammar.specs.declared.Symbol.{Symbol}
use Rattle.grammar.specs.declared.Rule.{Rule}
use Rattle.grammar.specs.declared.Grammar.{Grammar}
use Rattle.grammar.specs.Setters.{opened_rule, placed_rule, set_name, set_start, set_count, set_rule}
use Rattle.grammar.specs.Valid.{names_of, valid_grammar}
use Rattle.grammar.specs.Zero.{zero_grammar, no_rule}
use Rattle.grammar.proofs.Bounds.{valid-count}
use Rattle.answers.specs.declared.Fault.{Fault}
use Rattle.answers.specs.Number.{number_of}
use Rattle.results.specs.Load.{Step, signed, next, step, refused_load, accepted_load, run, load_of, open_rule, with_name}
use Rattle.results.proofs.Loading.Run.{run-stop, run-next, run-done, step-forward, run-fuel}
use Rattle.results.proofs.Loading.Changes.{start-set, rule-set, place_set, name_set}
use Rattle.results.proofs.Loading.Commands.{step_kept}
use Rattle.results.proofs.Loading.Valid.{valid-invariant, size-invariant}
use Rattle.load.specs.Answer.{loading_of}
use Rattle.load_commands.specs.Command.{name_from, step_of, Bounded, CommandRead}
use Rattle.load.specs.declared.Loaded.{Loaded}
use Rattle.load_commands.specs.declared.opcode.Command.{Command}
use Rattle.load_commands.specs.declared.opcode.Command.TheVariants as C
use Rattle.load_commands.specs.declared.opcode.Header.{Header}
use Rattle.load.proofs.Words.{rule_word, word_set, word_kept, word-open, word-compared}

-- ---- the loop

-- before the command at an offset: reading on from here gives what loading gives, the grammar read so far is valid, and the row has the
-- words of its names
pub record Progress (bytes : List ℕ) (at : ℕ) (row : List ℕ) (g : Grammar) : Type 0 where
  pub within : at ≤ length bytes
  pub reached : run bytes (suc (length bytes - at)) at g ≡ load_of bytes
  pub valid : valid_grammar g ≡ true
  pub few : g.count ≤ max_rules
  pub size : length g.rules ≡ max_rules
  pub words : row ≡ map rule_word g.rules

pub progress-first : (bytes : List ℕ) (g : Grammar) → g ≡ zero_grammar → Progress bytes 0 (replicate max_rules 0) g
unfolding load_of word_of
progress-first bytes g e = subst (Progress bytes 0 (replicate max_rules 0)) (sym e) (record {
  within = omega arith;
  reached = run-fuel bytes (suc (length bytes - 0)) (length bytes) 0 zero_grammar (omega arith) (omega arith);
  valid = (valid-invariant bytes).zero;
  few = omega arith;
  size = (size-invariant bytes).zero;
  words = refl;
})

-- the length of a rule, as the code reads it
signed-bytes : (low high : ℕ) → signed_in (low + 256 * high) ≡ signed low high
unfolding signed signed_in
signed-bytes low high = refl

module _ (bytes : List ℕ) (at : ℕ) (row : List ℕ) (g : Grammar) (P : Progress bytes at row g) where
  -- what was read, where q is the number of the last rule
  module _ (q : ℕ) (f : q ≡ g.count - 1) where
    means : (r : Result Command Fault) → CommandRead bytes at g.count (get_or g.rules q no_rule).count (get_or row q 0) r
        → step_of bytes r at g ≡ step bytes at g
    unfolding open_rule
    means r R = R.means g refl (ap (λ (i : ℕ). (get_or g.rules i no_rule).count) (sym f)) (sym (word-open g row P.words q f))

    pub loads-fault : (x : Fault) → CommandRead bytes at g.count (get_or g.rules q no_rule).count (get_or row q 0) (Err x)
        → (l : Loaded) → loading_of l ≡ refused_load (record { number = number_of x.refusal; offset = x.at })
        → loading_of l ≡ load_of bytes
    loads-fault x R l F = let s = run-stop (length bytes - at) bytes at g _ (sym (means (Err x) R)) in F ∙ sym s ∙ P.reached

  -- the command c that was read
  module _ (q : ℕ) (c : Command) (f : q ≡ g.count - 1)
      (R : CommandRead bytes at g.count (get_or g.rules q no_rule).count (get_or row q 0) (Ok c)) where
    goes : (m : Command) (s : Step) → c ≡ m → step_of bytes (Ok m) at g ≡ s → step bytes at g ≡ s
    goes m s e k = sym (means q f (Ok c) R) ∙ ap (λ (n : Command). step_of bytes (Ok n) at g) e ∙ k

    progress-next : (m : Command) (at' : ℕ) (row' : List ℕ) (g' h : Grammar) → c ≡ m → step_of bytes (Ok m) at g ≡ next at' g'
        → at' ≤ length bytes → row' ≡ map rule_word h.rules → h ≡ g' → Progress bytes at' row' h
    progress-next m at' row' g' h e s l W i = subst (λ (x : Grammar). row' ≡ map rule_word x.rules → Progress bytes at' row' x) (sym i)
        (λ U. record {
          within = l;
          reached = run-fuel bytes (suc (length bytes - at')) (length bytes - at) at' g' (omega arith) fewer
              ∙ sym (run-next (length bytes - at) bytes at g at' g' k) ∙ P.reached;
          valid = valid;
          few = valid-count g' valid;
          size = step_kept (size-invariant bytes) at g P.size at' g' k;
          words = U;
        }) W
      where
        k : step bytes at g ≡ next at' g'
        k = goes m (next at' g') e s

        fewer : length bytes - at' ≤ length bytes - at
        fewer = let f = step-forward bytes at g at' g' k in omega arith

        valid : valid_grammar g' ≡ true
        valid = step_kept (valid-invariant bytes) at g P.valid at' g' k

    abbrev bounded : (m : Command) → c ≡ m → Bounded bytes at g.count (get_or g.rules q no_rule).count (Ok m)
    bounded m e = subst (λ (x : Command). Bounded bytes at g.count (get_or g.rules q no_rule).count (Ok x)) e R.bounded

    pub progress_start : (k : ℕ) → c ≡ C.Start k → Progress bytes (at + 2) row (set_start g k)
    progress_start k e = progress-next (C.Start k) _ _ _ _ e refl (bounded (C.Start k) e) P.words (start-set g k)

    pub progress-rule : (o : Header) (n : ℕ) (r : Rule) → c ≡ C.Rule o n
        → r ≡ opened_rule o.left (signed_in (o.low + 256 * o.high)) o.first o.last
        → Progress bytes (at + n) (set row g.count 0) (set_count (set_rule g g.count r) (g.count + 1))
    unfolding word_of
    progress-rule o n r e i =
        let s = signed-bytes o.low o.high in
        progress-next (C.Rule o n) _ _ _ _ e refl (bounded (C.Rule o n) e).1
        (word_set g.rules row P.words g.count 0 r (sym (ap rule_word i)))
        (ap (λ (m : Rule). set_count (set_rule g g.count m) (g.count + 1))
        (i ∙ ap (λ (z : ℤ). opened_rule o.left z o.first o.last) s)
        ∙ rule-set g o.left (signed o.low o.high) o.first o.last)

    pub progress-place : (s : Symbol) (n : ℕ) (r : Rule) → c ≡ C.Place s n → r ≡ placed_rule (get_or g.rules q no_rule) s
        → Progress bytes (at + n) row (set_rule g q r)
    unfolding open_rule
    progress-place s n r e o =
        progress-next (C.Place s n) _ _ _ _ e refl (bounded (C.Place s n) e).1
        (word_kept g.rules row P.words q r (ap (λ (x : Rule). x.name) o))
        (ap (set_rule g q) o ∙ ap (λ (i : ℕ). set_rule g i (placed_rule (get_or g.rules i no_rule) s)) f ∙ place_set g s)

    -- a name: whether its word w is among those of the used rules
    module _ (first w : ℕ) (e : c ≡ C.Name first w) (b : Bool) (B : b ≡ has_word w (take g.count row)) where
      compared : has_name (name_from bytes first) (names_of g) ≡ b
      compared = sym (B ∙ ap (λ (x : ℕ). has_word x (take g.count row)) (bounded (C.Name first w) e).3
          ∙ word-compared g row P.words (name_from bytes first) P.valid (bounded (C.Name first w) e).2)

      pub progress-name : b ≡ false → (r : Rule) → r ≡ set_name (get_or g.rules q no_rule) (name_from bytes first)
          → Progress bytes (at + 9) (set row q w) (set_rule g q r)
      unfolding open_rule
      progress-name n r o =
          progress-next (C.Name first w) _ _ (with_name g (name_from bytes first)) _ e (rw (compared, n)) (bounded (C.Name first w) e).1
          (word_set g.rules row P.words q w r ((bounded (C.Name first w) e).3 ∙ ap rule_word (sym o)))
          (ap (set_rule g q) o ∙ ap (λ (i : ℕ). set_rule g i (set_name (get_or g.rules i no_rule) (name_from bytes first))) f
          ∙ name_set g (name_from bytes first))

      pub loads-name : b ≡ true → (l : Loaded) → loading_of l ≡ refused_load (record { number = 17; offset = at })
          → loading_of l ≡ load_of bytes
      loads-name y l F =
          let s = run-stop (length bytes - at) bytes at g (record { number = 17; offset = at })
          (goes (C.Name first w) _ e (rw (compared, y))) in
          F ∙ sym s ∙ P.reached

    pub loads-end : (l : Loaded) → c ≡ C.End → loading_of l ≡ accepted_load g → loading_of l ≡ load_of bytes
    loads-end l e A =
        let r = run-done (length bytes - at) bytes at g g (goes C.End _ e refl) in
        A ∙ sym r ∙ P.reached
