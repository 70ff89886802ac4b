-- A grammar inside another one under the same numbers: its trees are trees of the other, and have the same nodes there. Grammars that give
-- each number the same rule are inside each other. Assumes nothing.
use Prim.Native.Nat.{ℕ}
use mathlib.Core.List.{List}
use mathlib.Core.Path.{◌≡◌, sym, subst, ◌∙◌}
use Rattle.cfg.specs.Grammar.{Cfg, Symbol, rule}
use Rattle.cfg.specs.Tree.{Forest, Fits}
use Rattle.cfg.specs.Derivation.{Has, Superfluous}
use Rattle.theory_embedding.specs.Embedding.{RulesIn}
use Rattle.theory_embedding.proofs.Renumber.{renumber-same}
use Rattle.theory_embedding.proofs.Trees.{fits-into, has-back, superfluous-back}

pub same-rules-in : (G G' : Cfg) → ((r : ℕ) → rule G r ≡ rule G' r) → RulesIn (λ r. r) G G'
same-rules-in G G' same r ρ here = sym (same r) ∙ here

module _ (G G' : Cfg) (inside : RulesIn (λ r. r) G G') {places : List Symbol} {t : Forest} (fit : Fits G places t) where
  pub fits-same : Fits G' places t
  fits-same = subst (Fits G' places) (renumber-same t) (fits-into (λ r. r) G G' inside fit)

  pub has_same : {k n : ℕ} → Has G' k n t → Has G k n t
  has_same {k} {n} h = has-back (λ r. r) G G' inside fit (subst (Has G' k n) (sym (renumber-same t)) h)

  pub superfluous-same : Superfluous G' t → Superfluous G t
  superfluous-same s = superfluous-back (λ r. r) G G' inside fit (subst (Superfluous G') (sym (renumber-same t)) s)
