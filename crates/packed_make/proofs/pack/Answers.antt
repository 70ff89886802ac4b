-- The rules in force, one after the other. Assumes nothing.
use Rattle.std.proofs.Common.{◌<◌, arith, rules}
use Rattle.sizes.specs.Sizes.{max_rules}
use Rattle.grammar.proofs.Bounds.{valid-count, valid-used}
use Rattle.packed_make.proofs.Rows.{rows_start, rows-done}
use Rattle.packed_make.proofs.pack.Goals as goal

pub shared_ref_as_front-rule-items : goal.shared_ref_as_front-rule-items
shared_ref_as_front-rule-items c = search valid-count

pub loop-r-init : goal.loop-r-init
loop-r-init c = rows_start _ _

pub pack_in_force-requires : goal.pack_in_force-requires
pack_in_force-requires c =
    let few : c.loop-r.r < max_rules = omega (arith, valid-count _ c.requires) in
    (few, search valid-used, search rules, c.loop-r.invariant.unused _ (omega arith) few)

pub returns : goal.returns
returns c = search rows-done
