-- `learn_tidy::tidy` meets its contract: the used rules are tidied, and zeros come after them. Assumes nothing.
use Rattle.std.proofs.Common.{◌≡◌, ◌≤◌, ◌<◌, ◌-◌, ◌++◌, ◌∙◌, map, take, replicate, length, get_or, ap, ap₂, arith}
use Rattle.std.proofs.lemmas.Grind.{common_steps}
use Rattle.sizes.specs.Sizes.{max_rules, max_places}
use Rattle.grammar.specs.Setters.{set_rules}
use Rattle.grammar.specs.Zero.{no_rule, zero_rule}
use Rattle.grammar.proofs.Bounds.{rule-parts, valid-count, valid-each}
use Rattle.theory_tidying.specs.Tidying.{tidied_rule, tidied}
use Rattle.learn_tidy.proofs.tidy.Goals as goal

pub split_at_mut-used-requires : goal.split_at_mut-used-requires
split_at_mut-used-requires c = omega (arith, valid-count c.args.g c.requires)

pub tidy_rules-requires : goal.tidy_rules-requires
tidy_rules-requires c i l =
    let u : i < c.args.g.count = omega (arith, c.split_at_mut-used.ensures.front_len) in
    let few : (get_or c.args.g.rules i no_rule).count ≤ max_places = (rule-parts _ (valid-each c.args.g c.requires i u)).1 in
    grind (arith, common_steps)

pub returns : goal.returns
unfolding tidied
returns c =
    let g = c.args.g in
    let used : c.tidy_rules.new.rules ≡ map tidied_rule (take g.count g.rules) =
    c.tidy_rules.ensures ∙ ap (map tidied_rule) c.split_at_mut-used.ensures.front in
    let few : g.count ≤ max_rules = valid-count g c.requires in
    let long : length c.split_at_mut-used.result.1.now ≡ max_rules - g.count = omega arith in
    let unused : c.fill.new.self ≡ replicate (max_rules - g.count) zero_rule =
    c.fill.ensures.after (λ y e. e) ∙ ap₂ replicate long c.zero_rule.ensures in
    ap₂ (λ x y. set_rules g (x ++ y)) used unused
