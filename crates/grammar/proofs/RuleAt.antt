-- The rules of the abstract grammar by their numbers: below the count what the view shows of the record of that number, and from the count
-- on none. Assumes nothing.
use Prim.Native.Nat.{ℕ, zero, suc, ◌≤◌, ◌<◌}
use native.Mathlib.Nat.{le_of_suc-le-suc, not-suc-le-zero}
use native.Mathlib.Omega.{arith}
use mathlib.Core.Bool.{true}
use mathlib.Core.List.{List, [], ◌∷◌, map}
use mathlib.Core.Option.{Option, none, some}
use mathlib.Core.Path.{◌≡◌, refl, ap}
use lib.ListN.{length, take, get_or, get_elem?}
use Rattle.sizes.specs.Sizes.{max_rules}
use Rattle.cfg.specs.Grammar as Abstract
use Rattle.cfg.specs.Grammar.{joined, rule}
use Rattle.grammar.specs.declared.Grammar.{Grammar}
use Rattle.grammar.specs.declared.Rule.{Rule}
use Rattle.grammar.specs.Valid.{valid_grammar}
use Rattle.grammar.specs.View.{viewed_by}
use Rattle.grammar.specs.Zero.{no_rule}
use Rattle.grammar.proofs.Bounds.{valid-count}

module _ {A B : Type 0} (f : A → B) where
  pub get_elem-map-take : (l : List A) (d : A) (n r : ℕ) → r < n → r < length l → get_elem? (map f (take n l)) r ≡ some (f (get_or l r d))
  get_elem-map-take [] d n r h k = absurd (not-suc-le-zero k)
  get_elem-map-take (a ∷ l) d zero r h k = absurd (not-suc-le-zero h)
  get_elem-map-take (a ∷ l) d (suc n) zero h k = refl
  get_elem-map-take (a ∷ l) d (suc n) (suc r) h k = get_elem-map-take l d n r (le_of_suc-le-suc h) (le_of_suc-le-suc k)

  pub get_elem-map-past : (l : List A) (n r : ℕ) → n ≤ r → get_elem? (map f (take n l)) r ≡ none
  get_elem-map-past l zero r h = refl
  get_elem-map-past [] (suc n) r h = refl
  get_elem-map-past (a ∷ l) (suc n) zero h = absurd (not-suc-le-zero h)
  get_elem-map-past (a ∷ l) (suc n) (suc r) h = get_elem-map-past l n r (le_of_suc-le-suc h)

module _ (view : Rule → Option Abstract.Rule) (g : Grammar) (r : ℕ) where
  pub rule-at : length g.rules ≡ max_rules → valid_grammar g ≡ true → r < g.count
      → rule (viewed_by view g) r ≡ view (get_or g.rules r no_rule)
  unfolding joined
  rule-at e v h =
      let k : r < length g.rules = omega (arith, valid-count g v) in
      ap joined (get_elem-map-take view g.rules no_rule g.count r h k)

  pub rule-past : g.count ≤ r → rule (viewed_by view g) r ≡ none
  unfolding joined
  rule-past h = ap joined (get_elem-map-past view g.rules g.count r h)
