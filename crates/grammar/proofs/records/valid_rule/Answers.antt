-- Check 8 of a rule refuses if one of its tests fails, and passes if all of them pass. Assumes nothing.
use Rattle.grammar.proofs.Laws.{rule-left, rule-count, rule-places, rule-reversed, rule-passes}
use Rattle.grammar.proofs.records.valid_rule.Goals as goal
use Rattle.grammar.proofs.records.valid_rule.Goals.{then-rule-gt31-via-then-rule-gt31, then-rule-gt31-via-else-rule-gt31+then-n-gt-MAX_PLACES}

pub returns-then-rule-gt31 : goal.returns-then-rule-gt31
returns-then-rule-gt31 c = elim c.then-rule-gt31.branch [
  | then-rule-gt31-via-then-rule-gt31 w ↦ search rule-left
  | then-rule-gt31-via-else-rule-gt31+then-n-gt-MAX_PLACES w ↦ search rule-count
]

pub returns-then-not-valid_places : goal.returns-then-not-valid_places
returns-then-not-valid_places c = search rule-places

pub returns-then-rule : goal.returns-then-rule
returns-then-rule c = search rule-passes

pub returns-else-rule : goal.returns-else-rule
returns-else-rule c = search rule-reversed
