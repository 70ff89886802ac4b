-- The list L of a grammar inside another one, under the same numbers: it is the other's list, without the derivations that use other rules.
-- Grammars that are inside each other have one list. Assumes nothing.
use Prim.Native.Nat.{ℕ}
use mathlib.Core.Bool.{true}
use mathlib.Core.List.{List, [], ◌∷◌, Memᴰ}
use mathlib.Core.Path.{◌≡◌, sym, ap, subst, ◌∙◌}
use Rattle.cfg.specs.Grammar.{Cfg, nonterminal, rule}
use Rattle.cfg.specs.Tree.{Fits}
use Rattle.cfg.specs.Derivation.{Derivation, Superfluous}
use Rattle.cfg.specs.Listing.{derivations}
use Rattle.theory_listing.specs.Budget.{filter}
use Rattle.theory_listing.proofs.Rising.{pairs→rising, rising→pairs, rising-unique}
use Rattle.theory_listing.proofs.Filter.{filter-cases, filter-member, pairs-filter}
use Rattle.theory_listing.proofs.Exact.{listed→derivation, derivation→listed, derivations-rising}
use Rattle.theory_embedding.specs.Embedding.{Embeds, uses_only}
use Rattle.theory_embedding.proofs.Renumber.{renumber-same}
use Rattle.theory_embedding.proofs.Trees.{superfluous-into}
use Rattle.theory_embedding.proofs.Same.{same-rules-in}
use Rattle.theory_embedding.proofs.Derivations.{derivation-same}
use Rattle.theory_embedding.proofs.Uses.{fits-uses, fits-own}

-- a derivation uses only rules of its grammar
pub derivation-uses : (G : Cfg) (b : ℕ) (w e : List ℕ) → Derivation G b w e → uses_only G e ≡ true
derivation-uses G b w e d = ap (uses_only G) (sym d.coded) ∙ fits-uses G d.tree d.parse.0

module _ (G G' : Cfg) (inside : Embeds (λ r. r) G G') where
  -- a derivation of G' that uses only rules of G is one of G
  pub derivation-own : (b : ℕ) (w e : List ℕ) → Derivation G' b w e → uses_only G e ≡ true → Derivation G b w e
  derivation-own b w e d uses = record {
    tree = d.tree;
    parse = (
      subst (λ (k : ℕ). Fits G (nonterminal k ∷ []) d.tree) (sym inside.start)
          (fits-own G G' inside.rules d.tree d.parse.0 (ap (uses_only G) d.coded ∙ uses)),
      d.parse.1,
    );
    plain = λ s. d.plain (subst (Superfluous G') (renumber-same d.tree) (superfluous-into (λ r. r) G G' inside.rules s));
    small = d.small;
    coded = d.coded;
  }

  pub derivations-own : (b : ℕ) (w : List ℕ) → filter (uses_only G) (derivations G' b w) ≡ derivations G b w
  derivations-own b w =
      rising-unique (filter (uses_only G) (derivations G' b w)) (derivations G b w)
      (pairs→rising (pairs-filter (uses_only G) (rising→pairs (derivations-rising G' b w)))) (derivations-rising G b w)
      (λ e. (λ i. found e (filter-cases (uses_only G) (derivations G' b w) i), λ i. kept e (listed→derivation G b w e i)))
    where
      found : (e : List ℕ) → Memᴰ e (derivations G' b w) × (uses_only G e ≡ true) → Memᴰ e (derivations G b w)
      found e h = derivation→listed G b w e (derivation-own b w e (listed→derivation G' b w e h.0) h.1)

      kept : (e : List ℕ) → Derivation G b w e → Memᴰ e (filter (uses_only G) (derivations G' b w))
      kept e d =
          filter-member (uses_only G) (derivation→listed G' b w e (derivation-same G G' inside b w e d))
          (derivation-uses G b w e d)

-- each is inside the other
derivations-same : (G G' : Cfg) → Embeds (λ r. r) G G' → Embeds (λ r. r) G' G → (b : ℕ) (w : List ℕ)
    → derivations G b w ≡ derivations G' b w
derivations-same G G' inside back b w =
    rising-unique (derivations G b w) (derivations G' b w) (derivations-rising G b w) (derivations-rising G' b w)
    (λ e. (
      λ i. derivation→listed G' b w e (derivation-same G G' inside b w e (listed→derivation G b w e i)),
      λ i. derivation→listed G b w e (derivation-same G' G back b w e (listed→derivation G' b w e i)),
    ))

pub derivations-same-rules : (G G' : Cfg) → ((r : ℕ) → rule G r ≡ rule G' r) → G.start ≡ G'.start → (b : ℕ) (w : List ℕ)
    → derivations G b w ≡ derivations G' b w
derivations-same-rules G G' same start =
    derivations-same G G' (record { start = start; rules = same-rules-in G G' same })
    (record { start = sym start; rules = same-rules-in G' G (λ r. sym (same r)) })
