-- `learn_tidy::tidy_rule` meets its contract: zeros come after the used places. Assumes nothing.
use Rattle.std.proofs.Common.{◌≡◌, ◌++◌, ◌-◌, ◌∙◌, [], drop, length, take, replicate, arith, ap, ap₂, length-take, length-drop}
use Rattle.std.proofs.Math.ListN.{drop_of_length-le}
use Rattle.std.proofs.lemmas.List.{append-nil}
use Rattle.sizes.specs.Sizes.{max_places}
use Rattle.grammar.specs.Zero.{zero_place}
use Rattle.grammar.specs.Setters.{set_places}
use Rattle.theory_tidying.specs.Tidying.{tidied_rule}
use Rattle.learn_tidy.proofs.tidy_rule.Goals as goal

pub returns : goal.returns
unfolding tidied_rule
returns c =
    let r = c.args.r in
    let n = r.count in
    let long : length (take (length r.places - n) (drop n r.places)) ≡ max_places - n = simp (length-take, length-drop) (omega arith) in
    let zeros = c.fill.ensures.after (λ y e. e) ∙ ap₂ replicate long c.zero_place.ensures in
    let past : drop (length r.places - n) (drop n r.places) ≡ [] = drop_of_length-le (drop n r.places) (simp length-drop (omega arith)) in
    ap (λ x. set_places r (take n r.places ++ x)) (ap₂ ◌++◌ zeros past ∙ append-nil (replicate (max_places - n) zero_place))
