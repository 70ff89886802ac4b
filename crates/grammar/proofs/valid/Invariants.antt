-- The loop of `grammar::valid`: the rules before i are valid, the row has the words of their names, and these are distinct. Assumes nothing.
use Rattle.std.proofs.Common.{◌≡◌, true, map, take, length}
use Rattle.sizes.specs.Sizes.{max_rules}
use Rattle.names.specs.Word.{word_of}
use Rattle.grammar.specs.Valid.{all, valid_rule, distinct_names}
use Rattle.grammar.proofs.Names.{first_names}
use Rattle.grammar.proofs.valid.Given as goal

abbrev pub invariant-loop-i : goal.invariant-loop-i
invariant-loop-i l = record {
  valid : all valid_rule (take l.i l.rule-items) ≡ true;
  long : length l.words ≡ max_rules;
  words : take l.i l.words ≡ map word_of (first_names l.i l.rule-items);
  distinct : distinct_names (first_names l.i l.rule-items) ≡ true;
}
