-- `check_length::lengths_of` meets its contract: the lengths of the rules are written one after the other. Assumes nothing.
use Rattle.std.proofs.Common.{◌+◌, ◌∙◌, ap, arith, take, set, ℤ}
use mir.Facts.{to_z-of_z}
use mir.Syntax.{w16}
use Rattle.std.proofs.Math.ListN.{length-set}
use Rattle.grammar.proofs.Declared.{rules-long}
use Rattle.check_length.proofs.Lengths.{lengths-step}
use Rattle.check_length.proofs.lengths_of.Goals as goal

pub loop-r-preserved : goal.loop-r-preserved
loop-r-preserved c =
    let rules = c.args.g.rules in
    let full = rules-long c.args.g _ c.well_formed.0 in
    let read = to_z-of_z {w = w16} {z = c.length_of.result} (record { sfits = c.length_of.type_inv }) ∙ c.length_of.ensures in (
      length-set c.loop-r.l c.loop-r.r _ ∙ c.loop-r.invariant.0,
      ap (λ (z : ℤ). take (c.loop-r.r + 1) (set c.loop-r.l c.loop-r.r z)) read
          ∙ lengths-step c.loop-r.l rules c.loop-r.r (omega arith) (omega arith) c.loop-r.invariant.1,
    )
