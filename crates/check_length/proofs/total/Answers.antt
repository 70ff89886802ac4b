-- `check_length::total` meets its contract: a node's length is added, and a number that is no rule's adds nothing. Assumes nothing.
use Rattle.std.proofs.Common.{◌<◌, arith}
use Rattle.std.specs.Int.Signed.{mag}
use Rattle.check_length.specs.Measure.{lengths_in}
use Rattle.check_length.proofs.Lengths.{added, next-rule, next-none, sum_done, lengths-beyond}
use Rattle.check_length.proofs.total.Goals as goal
use Rattle.check_length.proofs.total.Goals.{then-r-lt-MAX_RULES, else-r-lt-MAX_RULES}

pub loop-i-preserved : goal.loop-i-preserved
loop-i-preserved c =
    elim c.if-r-lt-MAX_RULES.branch [
      | then-r-lt-MAX_RULES w ↦
          let little : mag (lengths_in c.args.l.now c.rule_number-r.result) < 32768 = omega arith in
          next-rule _ _ (omega arith) c.rule_number-r.ensures c.loop-i.invariant _ w.if-r-lt-MAX_RULES.true little
          (added _ _ c.loop-i.i little c.loop-i.invariant.small _ _ (omega arith) w.from-sum.ensures w.sum-is)
      | else-r-lt-MAX_RULES w ↦
          rw w.sum-is (next-none _ _ (omega arith) c.rule_number-r.ensures c.loop-i.invariant (lengths-beyond c.args.l.now c.requires.1)
          w.if-r-lt-MAX_RULES.false)
    ]

pub returns : goal.returns
returns c = (sum_done _ _ (omega arith) c.loop-i.invariant, omega arith)
