-- Trees of a grammar inside another one, renumbered: they fit its rules and have the same nodes, so they have the same superfluous
-- recursion. Assumes nothing.
use Prim.Native.Nat.{ℕ}
use mathlib.Core.List.{List}
use mathlib.Core.Path.{◌≡◌, sym, ap, subst, ◌∙◌}
use lib.ListN.{length}
use Rattle.cfg.specs.Grammar.{Cfg, Symbol, Of}
use Rattle.cfg.specs.Tree.{Forest, yield, Fits, fits_end, fits_leaf, fits_node}
use Rattle.cfg.specs.Derivation.{Has, has_here, has_below, has_beside, has_after}
use Rattle.cfg.specs.Derivation.{Superfluous, super_here, super_below, super_beside, super_after}
use Rattle.cfg.proofs.Of.{of-same-left}
use Rattle.theory_embedding.specs.Embedding.{RulesIn, renumber}
use Rattle.theory_embedding.proofs.Renumber.{renumber-yield}

module _ (f : ℕ → ℕ) (G G' : Cfg) (inside : RulesIn f G G') where
  -- a rule of k in G is a rule of k in G', with the same places
  unfoldable pub of-into : (r k : ℕ) → Of G r k → Of G' (f r) k
  of-into r k o = record { the = o.the; here = inside r o.the o.here; left = o.left }

  -- a rule of G that G' has for j is one of j
  of-back : (r j k : ℕ) → Of G r k → Of G' (f r) j → Of G r j
  of-back r j k o p = record { the = o.the; here = o.here; left = o.left ∙ of-same-left (of-into r k o) p }

  pub fits-into : {places : List Symbol} {t : Forest} → Fits G places t → Fits G' places (renumber f t)
  unfolding renumber of-into
  fits-into fits_end = fits_end
  fits-into (fits_leaf h q) = fits_leaf h (fits-into q)
  fits-into (fits_node {k = k} {r} o p q) = fits_node (of-into r k o) (fits-into p) (fits-into q)

  -- ---- nodes and superfluous recursion, from G to G'

  pub has-into : {k n : ℕ} {t : Forest} → Has G k n t → Has G' k n (renumber f t)
  unfolding renumber
  has-into {k} (has_here {r = r} {below} o e) = has_here (of-into r k o) (ap length (renumber-yield f below) ∙ e)
  has-into (has_below h) = has_below (has-into h)
  has-into (has_beside h) = has_beside (has-into h)
  has-into (has_after h) = has_after (has-into h)

  pub superfluous-into : {t : Forest} → Superfluous G t → Superfluous G' (renumber f t)
  unfolding renumber
  superfluous-into (super_here {k = k} {r} {below} o h) =
      super_here (of-into r k o)
      (subst (λ (n : ℕ). Has G' k n (renumber f below)) (sym (ap length (renumber-yield f below))) (has-into h))
  superfluous-into (super_below h) = super_below (superfluous-into h)
  superfluous-into (super_beside h) = super_beside (superfluous-into h)
  superfluous-into (super_after h) = super_after (superfluous-into h)

  -- ---- and back, by the rules that the tree uses

  pub has-back : {places : List Symbol} {k n : ℕ} {t : Forest} → Fits G places t → Has G' k n (renumber f t) → Has G k n t
  unfolding renumber
  has-back {k = j} {n = n} fits_end x4 = elim x4 [ ]
  has-back (fits_leaf _ q) (has_after h) = has_after (has-back q h)
  has-back {k = j} (fits_node {k = k} {r} {below = below} o p q) (has_here o' e) =
      has_here (of-back r j k o o') (ap length (sym (renumber-yield f below)) ∙ e)
  has-back (fits_node o p q) (has_below h) = has_below (has-back p h)
  has-back (fits_node o p q) (has_beside h) = has_beside (has-back q h)

  pub superfluous-back : {places : List Symbol} {t : Forest} → Fits G places t → Superfluous G' (renumber f t) → Superfluous G t
  unfolding renumber
  superfluous-back fits_end x4 = elim x4 [ ]
  superfluous-back (fits_leaf _ q) (super_after h) = super_after (superfluous-back q h)
  superfluous-back (fits_node {k = k} {r} {below = below} o p q) (super_here {k = j} o' h) =
      super_here (of-back r j k o o')
      (subst (λ (n : ℕ). Has G j n below) (ap length (renumber-yield f below)) (has-back p h))
  superfluous-back (fits_node o p q) (super_below h) = super_below (superfluous-back p h)
  superfluous-back (fits_node o p q) (super_beside h) = super_beside (superfluous-back q h)
