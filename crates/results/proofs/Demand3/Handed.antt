-- Demand 3 over the decided results, put together: each list of calls has no first or splits at its last one; what it says, where the walk
-- is, and what is handed out before any first and since the last one. Assumes nothing.
use Prim.Native.Nat.{ℕ, ◌≤◌}
use mathlib.Core.Bool.{true}
use mathlib.Core.List.{List, [], ◌∷◌, ◌++◌, map, map-append}
use mathlib.Core.Logic.{◌⊎◌, inl, inr}
use mathlib.Core.Path.{◌≡◌, refl, sym, ap, ◌∙◌}
use lib.ListN.{length, take, length-map}
use Rattle.sizes.specs.Sizes.{max_input}
use Rattle.cfg.specs.Tree.{HasTree}
use Rattle.cfg.specs.Listing.{L}
use Rattle.grammar.specs.Valid.{valid_grammar}
use Rattle.grammar.specs.View.{Dated, grammar_of}
use Rattle.results.specs.Walk.{walked, handed_out, NoFirst}
use Rattle.results.specs.Walk as Walk
use Rattle.results.specs.History.{Made, first, next_copy, next_other, count, which, AllAllowed, history}
use Rattle.results.specs.Demand3.{LastFirst, Demand3}
use Rattle.results.proofs.Demand3.Walk.{walk-holds}
use Rattle.results.proofs.Demand3.Places.{before-first, since-first}

abbrev later_first : (m : Made) {calls : List Made} → LastFirst calls → LastFirst (m ∷ calls)
later_first m r = record {
  before = m ∷ r.before;
  chart = r.chart;
  out = r.out;
  after = r.after;
  split = ap (λ (l : List Made). m ∷ l) r.split;
  none = r.none;
}

-- each list of calls has no first, or a last one
pub last-first : (calls : List Made) → NoFirst (map which calls) ⊎ LastFirst calls
last-first [] = inl tt
last-first (first chart out ∷ calls) = elim (last-first calls) [
  | inl n ↦ inr (record { before = []; chart = chart; out = out; after = calls; split = refl; none = n })
  | inr r ↦ inr (later_first (first chart out) r)
]
last-first (next_copy chart out ∷ calls) = elim (last-first calls) [ inl n ↦ inl n | inr r ↦ inr (later_first (next_copy chart out) r) ]
last-first (next_other e chart out ∷ calls) = elim (last-first calls) [ inl n ↦ inl n | inr r ↦ inr (later_first (next_other e chart out) r) ]
last-first (count chart ∷ calls) = elim (last-first calls) [ inl n ↦ inl n | inr r ↦ inr (later_first (count chart) r) ]

module _ (g : Dated) (valid : valid_grammar g.grammar ≡ true) (w : List ℕ) (high : length w ≤ max_input)
    (tree : Dec (HasTree (grammar_of g) w)) where
  pub demand-3 : (calls : List Made) → AllAllowed (grammar_of g) w calls → Demand3 g w tree calls
  demand-3 calls a = record {
    walks = same;
    splits = last-first calls;
    place_before = λ n. (before-first (grammar_of g) w tree (map which calls) n).0;
    handed_before = λ n. ap handed_out same ∙ (before-first (grammar_of g) w tree (map which calls) n).1;
    place_since = λ f. rw (split-which f) (since-first (grammar_of g) w tree (map which f.before) (map which f.after) f.none).0;
    handed_since = λ f.
        rw (same, split-which f, ← length-map f.before which)
        ((since-first (grammar_of g) w tree (map which f.before) (map which f.after) f.none).1
        ∙ ap (λ (k : ℕ). take k (L (grammar_of g) w))
        (sym (since-first (grammar_of g) w tree (map which f.before) (map which f.after) f.none).0));
  }
    where
      same : history g w [] calls ≡ walked (grammar_of g) w tree (map which calls) 0
      same = walk-holds g valid w high tree calls a

      split-which : (f : LastFirst calls) → map which calls ≡ map which f.before ++ Walk.first ∷ map which f.after
      split-which f = ap (map which) f.split ∙ map-append which f.before (first f.chart f.out ∷ f.after)
