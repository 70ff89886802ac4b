-- The grammar of a row, from its parts as they are read. Assumes nothing.
use Prim.Native.Nat.{ℕ}
use mathlib.Core.List.{List}
use mathlib.Core.Path.{◌≡◌}
use lib.ListN.{get_or}
use Rattle.sizes.specs.Sizes.{max_rules}
use Rattle.grammar.specs.declared.Rule.{Rule}
use Rattle.grammar.specs.Setters.{grammar_with}
use Rattle.grammar.proofs.Setters.{grammar-same}
use Rattle.numbers.specs.Numbers.{byte_in}
use Rattle.c_grammar.specs.Flat.{rule_numbers, row_rule, row_rules, grammar_in, records_from}

pub whole-read : (f : List ℕ) (s k d : ℕ) (l : List Rule) → s ≡ byte_in (get_or f 0 0) → k ≡ get_or f 1 0 → d ≡ byte_in (get_or f 2 0)
    → l ≡ records_from (row_rule f) rule_numbers 3 max_rules → grammar_with s k d l ≡ grammar_in f
unfolding grammar_in row_rules
whole-read f s k d l es ek ed el = grammar-same (grammar_with s k d l) (grammar_in f) es ek ed el
