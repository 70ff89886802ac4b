-- `learn_tidy::tidy_rules` meets its contract: one more rule is tidied in each turn. Assumes nothing.
use Rattle.std.proofs.Common.{arith}
use Rattle.std.proofs.lemmas.List.{get_or_default}
use Rattle.std.proofs.lemmas.List.Edits.{map_over_more}
use Rattle.theory_tidying.specs.Tidying.{tidied_rule}
use Rattle.learn_tidy.proofs.tidy_rules.Goals as goal

pub loop-r-preserved : goal.loop-r-preserved
loop-r-preserved c =
    let i = c.loop-r.r-index in
    let read = get_or_default c.loop-r.rules i _ _ (omega arith) in
    rw c.tidy_rule.ensures (map_over_more tidied_rule _ c.loop-r.rules i _ (omega arith) c.loop-r.invariant read)
