-- Check 8 of a grammar refuses if one of its tests fails, and passes if all of them pass. Assumes nothing.
use Rattle.std.proofs.Common.{refl, length-set, arith, rules}
use Rattle.grammar.specs.Valid.{all, distinct_names}
use Rattle.grammar.proofs.Laws.{all-next, grammar-start, grammar-count, grammar-rule, grammar-passes}
use Rattle.grammar.proofs.Names.{words_more, name-refused, next-unnamed, next-named}
use Rattle.grammar.proofs.valid.Goals as goal
use Rattle.grammar.proofs.valid.Goals.{then-g-gt31-via-then-g-gt31, then-g-gt31-via-else-g-gt31+then-n-gt-MAX_RULES}
use Rattle.grammar.proofs.valid.Goals.{else-w-ne0-via-then-w-ne0+else-earlier, else-w-ne0-via-else-w-ne0}

pub returns-then-g-gt31 : goal.returns-then-g-gt31
returns-then-g-gt31 c = elim c.then-g-gt31.branch [
  | then-g-gt31-via-then-g-gt31 w ↦ search grammar-start
  | then-g-gt31-via-else-g-gt31+then-n-gt-MAX_RULES w ↦ search grammar-count
]

pub loop-i-init : goal.loop-i-init
unfolding all distinct_names
loop-i-init c = record { valid = refl; long = search rules; words = refl; distinct = refl }

pub returns-then-not-valid_rule : goal.returns-then-not-valid_rule
returns-then-not-valid_rule c = search grammar-rule

pub returns-then-earlier : goal.returns-then-earlier
returns-then-earlier c = search name-refused

pub loop-i-preserved : goal.loop-i-preserved
loop-i-preserved c = record {
  valid = search all-next;
  long = simp length-set c.loop-i.invariant.long;
  words = words_more _ _ _ _ c.loop-i-test.true (omega arith) c.word-w.ensures c.loop-i.invariant.words;
  distinct = elim c.else-w-ne0.branch [
    | else-w-ne0-via-then-w-ne0+else-earlier w ↦ search next-named
    | else-w-ne0-via-else-w-ne0 w ↦ search next-unnamed
  ];
}

pub returns : goal.returns
returns c = search grammar-passes
