-- The row of words that the loader keeps beside the grammar: the word of each rule's name. Assumes nothing.
use Prim.Native.Nat.{ℕ, ◌-◌}
use mathlib.Core.Bool.{true, not}
use mathlib.Core.List.{List, map, map-map}
use mathlib.Core.Path.{◌≡◌, sym, ap, ◌∙◌}
use lib.Dec.{eqb}
use lib.ListN.{get_or, take, set, get_or-map}
use lib.Seq.{map-set_same}
use Rattle.theory_words.specs.Name.{valid_name, has_name}
use Rattle.names.specs.Word.{word_of, has_word}
use Rattle.names.proofs.Compared.{word-unnamed}
use Rattle.grammar.specs.declared.Rule.{Rule}
use Rattle.grammar.specs.declared.Grammar.{Grammar}
use Rattle.grammar.specs.Valid.{names_of, valid_grammar}
use Rattle.grammar.specs.Zero.{no_rule}
use Rattle.grammar.proofs.Bounds.{grammar-parts}
use Rattle.grammar.proofs.Names.{map-take, map-set, names-compared}
use Rattle.results.specs.Load.{open_rule, open_named}

-- the word of a rule's name; that of a rule without a name is 0
abbrev pub rule_word : Rule → ℕ
rule_word r = word_of r.name

module _ (rules : List Rule) (row : List ℕ) (W : row ≡ map rule_word rules) where
  pub word_set : (q w : ℕ) (r : Rule) → w ≡ rule_word r → set row q w ≡ map rule_word (set rules q r)
  word_set q w r e = rw (W, e, map-set rule_word rules q r)

  pub word_kept : (q : ℕ) (r : Rule) → r.name ≡ (get_or rules q no_rule).name → row ≡ map rule_word (set rules q r)
  word_kept q r e = W ∙ sym (map-set_same rule_word rules q r no_rule (ap word_of e))

  pub word_at : (q : ℕ) → get_or row q 0 ≡ rule_word (get_or rules q no_rule)
  unfolding word_of
  word_at q = ap (λ (l : List ℕ). get_or l q 0) W ∙ get_or-map rule_word rules q no_rule

module _ (g : Grammar) (row : List ℕ) (W : row ≡ map rule_word g.rules) where
  -- the word of the open rule is 0 exactly if that has no name
  pub word-open : (q : ℕ) → q ≡ g.count - 1 → not (eqb (get_or row q 0) 0) ≡ open_named g
  unfolding open_named open_rule
  word-open q f = rw (word_at g.rules row W q, f) (ap not (word-unnamed (open_rule g).name))

  -- a valid name is that of a used rule exactly if its word is among theirs
  pub word-compared : (name : List ℕ) → valid_grammar g ≡ true → valid_name name ≡ true
      → has_word (word_of name) (take g.count row) ≡ has_name name (names_of g)
  word-compared name v e = names-compared g.rules g.count row name (grammar-parts g v).2 used e
    where
      used : take g.count row ≡ map word_of (names_of g)
      used = ap (take g.count) W ∙ sym (map-take rule_word g.rules g.count) ∙ sym (map-map word_of _ (take g.count g.rules))
