-- The longer grammar: check 8 lets it through, what is unused in it is zero, and it has the rules of the old one. Assumes nothing.
use Prim.Native.Nat.{ℕ, ◌+◌, ◌-◌, ◌≤◌, ◌<◌}
use native.Mathlib.Decide.{dec_lt}
use native.Mathlib.Omega.{arith}
use mathlib.Core.Bool.{true}
use mathlib.Core.List.{List, map}
use mathlib.Core.Logic.{dite}
use mathlib.Core.Path.{◌≡◌, refl, sym, ◌∙◌, subst}
use lib.ListN.{length, take, get_or, replicate, length-map}
use lib.Seq.{length-take-le, drop_at}
use Rattle.sizes.specs.Sizes.{max_rules, max_places}
use Rattle.cfg.specs.Nullable.{depth_of}
use Rattle.theory_tidying.specs.Tidying.{tidied_rule, tidied, Shaped}
use Rattle.theory_tidying.proofs.Tidied.{tidied-rule-size, tidied-size, tidied-used, tidied-unused, shaped-enough, shaped-room}
use Rattle.theory_tidying.proofs.Named.{tidied-valid}
use Rattle.grammar.specs.declared.Rule.{Rule}
use Rattle.grammar.specs.declared.Grammar.{Grammar}
use Rattle.grammar.specs.Valid.{valid_grammar}
use Rattle.grammar.specs.View.{whole_of}
use Rattle.grammar.specs.Zero.{zero_place, zero_rule, no_rule}
use Rattle.grammar.proofs.Bounds.{rule-parts, valid-count, valid-each}
use Rattle.results.specs.Recognize.{State}
use Rattle.results.specs.Learn.{longer, enlarged, Learning, learn_in, learn_of}
use Rattle.results.proofs.Learning.Commands.{learn-invariant}
use Rattle.results.proofs.Learning.Enlarged.{enlarged-longer}
use Rattle.results.proofs.Learning.Old.{enlarged-start, enlarged-count, enlarged-depth, whole-rule, year-rule}
use Rattle.demands.specs.LoadDemand.{ZeroPlaces, ZeroBehind}
use Rattle.demands.specs.Order.{NoRefusal}
use Rattle.demands.specs.Learn.{Longer}
use Rattle.demands.proofs.LoadUnused.{Tidy, tidy-invariant}
use Rattle.demands.proofs.LoadDemand.{depth-tidy}
use Rattle.demands.proofs.Learn.{by_cases}

-- ---- the old grammar without rubbish

rule-behind : (r : Rule) → r.count ≤ length r.places → r.count ≤ max_places → ZeroPlaces (tidied_rule r)
unfolding tidied_rule
rule-behind r enough few = record {
  size = tidied-rule-size r enough few;
  unused = drop_at (take r.count r.places) _ r.count (length-take-le r.count r.places enough);
}

module _ (g : Grammar) (S : Shaped g) (valid : valid_grammar g ≡ true) where
  abbrev few : g.count ≤ max_rules
  few = valid-count g valid

  abbrev enough : g.count ≤ length g.rules
  enough = shaped-enough g S valid

  tidied-places : (i : ℕ) → i < max_rules → ZeroPlaces (get_or (tidied g).rules i no_rule)
  tidied-places i h = dite (dec_lt i g.count)
      (λ l. subst ZeroPlaces (sym (tidied-used g enough i l)) (rule-behind (get_or g.rules i no_rule) (shaped-room g S valid i l)
      (rule-parts (get_or g.rules i no_rule) (valid-each g valid i l)).1))
      (λ l. subst ZeroPlaces (sym (tidied-unused g enough i (omega arith) h)) (record { size = refl; unused = refl }))

  tidied-behind : ZeroBehind (tidied g)
  unfolding tidied
  tidied-behind = record {
    size = tidied-size g enough few;
    unused = drop_at (map tidied_rule (take g.count g.rules)) _ g.count
        (length-map (take g.count g.rules) tidied_rule ∙ length-take-le g.count g.rules enough);
    places = tidied-places;
  }

  -- ---- the longer one

  pub longer-tidy : (g' : Grammar) (bytes : List ℕ) → enlarged g bytes ≡ longer g' → Tidy g'
  longer-tidy g' bytes e =
      let begins : Tidy (tidied g) = record { valid = tidied-valid g valid; behind = tidied-behind } in
      let L = enlarged-longer (learn-invariant (tidy-invariant bytes)) g g' (begins, λ z. absurd (omega arith)) e in
      subst Tidy (sym L.same) (depth-tidy L.read (depth_of (whole_of L.read)) L.holds.0)

  longer-old : (g' : Grammar) (bytes : List ℕ) → enlarged g bytes ≡ longer g' → Longer g g'
  longer-old g' bytes e = record {
    start = enlarged-start g g' bytes e;
    count = enlarged-count g g' bytes e;
    depth = enlarged-depth g g' bytes e;
    whole = record { start = sym (enlarged-start g g' bytes e); rules = whole-rule g g' bytes e S valid };
    years = λ y. record { start = sym (enlarged-start g g' bytes e); rules = λ r ρ. year-rule g g' bytes e S valid r ρ y };
  }

-- ---- what learning gives

module _ (g : Grammar) (h : State) (bytes chart : List ℕ) (S : Shaped g) where
  pub learn-valid : NoRefusal (learn_of g h bytes chart).answer
      → (valid_grammar (learn_of g h bytes chart).grammar ≡ true) × ZeroBehind (learn_of g h bytes chart).grammar
  unfolding learn_in
  learn-valid = by_cases g h bytes chart (λ r. NoRefusal r.answer → (valid_grammar r.grammar ≡ true) × ZeroBehind r.grammar)
      (λ f none. absurd (none f.number refl))
      (λ valid state room g' e none. let T = longer-tidy g S valid g' bytes e in (T.valid, T.behind))

  pub learn-old : NoRefusal (learn_of g h bytes chart).answer → Longer g (learn_of g h bytes chart).grammar
  unfolding learn_in
  learn-old = by_cases g h bytes chart (λ r. NoRefusal r.answer → Longer g r.grammar)
      (λ f none. absurd (none f.number refl))
      (λ valid state room g' e none. longer-old g S valid g' bytes e)
