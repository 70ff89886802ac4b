-- The row of words of names before a rule is learnt: it is filled from the old grammar. Assumes nothing.
use Prim.Native.Nat.{ℕ, ◌+◌, ◌-◌, ◌≤◌, ◌<◌}
use native.Mathlib.Omega.{arith}
use mathlib.Core.Bool.{true}
use mathlib.Core.List.{List, ◌++◌, map}
use mathlib.Core.Path.{◌≡◌, refl, sym, ap, ◌∙◌}
use lib.ListN.{length, get_or, take, drop, replicate, set, length-map}
use lib.Seq.{length-take-le, take_at}
use Rattle.sizes.specs.Sizes.{max_rules}
use Rattle.names.specs.Word.{word_of}
use Rattle.grammar.specs.declared.Grammar.{Grammar}
use Rattle.grammar.specs.Valid.{valid_grammar}
use Rattle.grammar.specs.Zero.{zero_rule, no_rule}
use Rattle.grammar.proofs.Bounds.{valid-count}
use Rattle.theory_tidying.specs.Tidying.{tidied_rule, tidied}
use Rattle.theory_tidying.proofs.Padded.{map-padded}
use Rattle.theory_tidying.proofs.Tidied.{tidied-size, tidied-used}
use Rattle.recognizer.proofs.Copied.{bytes-step, bytes-done}
use Rattle.load.proofs.Words.{rule_word, word_at}
use Rattle.learn.specs.Reading.{name_words}

module _ (g : Grammar) (long : length g.rules ≡ max_rules) (valid : valid_grammar g ≡ true) where
  few : g.count ≤ max_rules
  few = valid-count g valid

  enough : g.count ≤ length g.rules
  enough = omega (arith, few)

  size : length (name_words (tidied g)) ≡ max_rules
  size = length-map (tidied g).rules rule_word ∙ tidied-size g enough few

  word-here : (i : ℕ) → i < g.count → rule_word (get_or g.rules i no_rule) ≡ get_or (name_words (tidied g)) i 0
  unfolding tidied_rule
  word-here i h =
      sym (word_at (tidied g).rules (name_words (tidied g)) refl i ∙ ap rule_word (tidied-used g enough i h))

  pub words-next : (i w : ℕ) (row : List ℕ) → i < g.count → w ≡ rule_word (get_or g.rules i no_rule)
      → row ≡ take i (name_words (tidied g)) ++ drop i (replicate max_rules 0)
      → set row i w ≡ take (i + 1) (name_words (tidied g)) ++ drop (i + 1) (replicate max_rules 0)
  words-next i w row h e f =
      ap (set row i) (e ∙ word-here i h) ∙ bytes-step max_rules (name_words (tidied g)) size i row (omega (arith, few)) f

  -- the words of the used rules, and zeros for the others
  used : List ℕ
  used = map rule_word (map tidied_rule (take g.count g.rules))

  used-size : length used ≡ g.count
  unfolding used
  used-size =
      length-map (map tidied_rule (take g.count g.rules)) rule_word ∙ length-map (take g.count g.rules) tidied_rule
      ∙ length-take-le g.count g.rules enough

  words-split : name_words (tidied g) ≡ used ++ replicate (max_rules - g.count) 0
  unfolding tidied word_of used
  words-split = map-padded zero_rule rule_word (map tidied_rule (take g.count g.rules)) (max_rules - g.count)

  pub words-done : (i : ℕ) (row : List ℕ) → i ≤ g.count → g.count ≤ i
      → row ≡ take i (name_words (tidied g)) ++ drop i (replicate max_rules 0) → row ≡ name_words (tidied g)
  words-done i row h l e =
      bytes-done max_rules (name_words (tidied g)) size i g.count row h l e
      ∙ ap (λ (x : List ℕ). x ++ replicate (max_rules - g.count) 0)
      (ap (take g.count) words-split ∙ take_at used (replicate (max_rules - g.count) 0) g.count used-size)
      ∙ sym words-split
