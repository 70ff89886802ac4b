-- The row of a rule, place by place. Assumes nothing.
use Rattle.std.proofs.Common.{◌≡◌, ◌<◌, ◌≤◌, length, length-take, arith}
use Rattle.sizes.specs.Sizes.{max_places}
use Rattle.grammar.proofs.Bounds.{rule-parts}
use Rattle.grammar.proofs.Declared.{places-long}
use Rattle.packed_make.proofs.Row.{row-start, used_step, row_done}
use Rattle.packed_make.proofs.pack_rule.Goals as goal

pub overflow_cast-p : goal.overflow_cast-p
overflow_cast-p c = omega (arith, (rule-parts _ c.requires.1).1)

pub shared_ref_as_front-place-items : goal.shared_ref_as_front-place-items
shared_ref_as_front-place-items c = (rule-parts _ c.requires.1).1

pub loop-q-init : goal.loop-q-init
loop-q-init c = row-start _ _ c.requires.0 c.args.p.now c.requires.2

pub loop-q-preserved : goal.loop-q-preserved
loop-q-preserved c =
    let used : c.loop-q.q < c.args.rule.count = omega (arith, length-take c.args.rule.count c.args.rule.places) in
    let few : c.loop-q.q < max_places = omega (arith, (rule-parts _ c.requires.1).1) in
    used_step _ _ c.requires.0 _ _ _ _ _ _ few used c.loop-q.invariant c.tag_of.ensures c.value_of.ensures c.high_of.ensures

pub returns : goal.returns
returns c =
    let full : length c.args.rule.places ≡ max_places = search places-long in
    let few : c.args.rule.count ≤ c.loop-q.q =
    omega (arith, length-take c.args.rule.count c.args.rule.places, (rule-parts _ c.requires.1).1) in
    row_done _ _ _ c.args.p.now _ full c.requires.1 few c.loop-q.invariant
