-- The tests on the list L in terms of derivations: a row is listed exactly if it is a derivation, and without a derivation the list is
-- empty. Assumes nothing.
use Prim.Native.Nat.{ℕ}
use mathlib.Core.Bool.{true, false, not}
use mathlib.Core.List.{List, []}
use mathlib.Core.Logic.{◌↔◌}
use mathlib.Core.Path.{◌≡◌, ap}
use borrow.Author.Tests.{not-false}
use Rattle.laws.proofs.Lists.{no_member}
use Rattle.cfg.specs.Grammar.{Cfg}
use Rattle.cfg.specs.Derivation.{Derivation, limit}
use Rattle.cfg.specs.Listing.{L}
use Rattle.theory_listing.proofs.Exact.{listed→derivation, derivation→listed}
use Rattle.grammar.specs.View.{Dated, grammar_of}
use Rattle.results.specs.Check.{listed}
use Rattle.results.specs.Measure.{unlisted}
use Rattle.results.proofs.Demand3.Rows.{listed-member, member-listed}

-- ---- offered derivations

module _ (g : Dated) (w e : List ℕ) where
  pub listed-exact : (listed e (L (grammar_of g) w) ≡ true) ↔ Derivation (grammar_of g) limit w e
  listed-exact = (
    λ p. listed→derivation (grammar_of g) limit w e (listed-member e (L (grammar_of g) w) p),
    λ d. member-listed e (derivation→listed (grammar_of g) limit w e d),
  )

  pub derivation→offered : Derivation (grammar_of g) limit w e → unlisted (grammar_of g) w e ≡ false
  unfolding unlisted
  derivation→offered d = ap not (listed-exact.1 d)

  pub offered→derivation : unlisted (grammar_of g) w e ≡ false → Derivation (grammar_of g) limit w e
  unfolding unlisted
  offered→derivation q = listed-exact.0 (not-false (listed e (L (grammar_of g) w)) q)

-- ---- the empty list

pub none→empty : (G : Cfg) (w : List ℕ) → ((e : List ℕ) → Derivation G limit w e → ⊥) → L G w ≡ []
none→empty G w f = no_member (L G w) (λ e m. f e (listed→derivation G limit w e m))
