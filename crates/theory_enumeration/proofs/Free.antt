-- Rows without superfluous recursion, and rows free of a mask: from the parts to the row, and back. The parts are a leaf and a row, a node
-- and a row, or a node and the row below it. No node covers more than its row, so a narrow row is free of every mask. Assumes nothing.
use Prim.Native.Nat.{ℕ, ◌<◌}
use mathlib.Core.Bool.{false, true≢false}
use mathlib.Core.Logic.{dite}
use mathlib.Core.Path.{◌≡◌, sym, ap, subst, ◌∙◌}
use native.Mathlib.Decide.{ℕ_discrete}
use native.Mathlib.Omega.{arith}
use lib.ListN.{length}
use Rattle.laws.proofs.Bools.{bool_false}
use Rattle.sets.specs.Set.{has, insert}
use Rattle.sets.proofs.Laws.{has-empty, has-insert-same, has-insert-other, has-insert}
use Rattle.cfg.specs.Grammar.{Cfg, Of}
use Rattle.cfg.specs.Tree.{Forest, end, leaf, node, yield}
use Rattle.cfg.specs.Derivation.{Has, has_here, has_below, has_beside, has_after}
use Rattle.cfg.specs.Derivation.{Superfluous, super_here, super_below, super_beside, super_after}
use Rattle.cfg.proofs.Of.{of-same-left}
use Rattle.cfg.proofs.Has.{has_within}
use Rattle.theory_enumeration.specs.Rows.{Free}

module _ (G : Cfg) where
  -- a forest over fewer bytes is free of every mask
  pub free-narrow : (cover mask : ℕ) (t : Forest) → length (yield t) < cover → Free G cover mask t
  free-narrow cover mask t l k h i = absurd (omega (arith, has_within i))

  pub free-empty : (cover : ℕ) (t : Forest) → Free G cover 0 t
  free-empty cover t k h = absurd (true≢false (sym h ∙ has-empty k))

  -- ---- the end of a row, and a leaf before a row

  pub end-plain : Superfluous G end → ⊥
  end-plain = elim [ ]

  pub end-free : (cover mask : ℕ) → Free G cover mask end
  end-free cover mask k h = elim [ ]

  module _ (m : ℕ) (rest : Forest) where
    pub leaf-plain : ¬ Superfluous G rest → ¬ Superfluous G (leaf m rest)
    leaf-plain s (super_after i) = s i

    pub leaf-free : (cover mask : ℕ) → Free G cover mask rest → Free G cover mask (leaf m rest)
    leaf-free cover mask f k h (has_after i) = f k h i

    pub after-plain : ¬ Superfluous G (leaf m rest) → ¬ Superfluous G rest
    after-plain s i = s (super_after i)

    pub after_free : (cover mask : ℕ) → Free G cover mask (leaf m rest) → Free G cover mask rest
    after_free cover mask f k h i = f k h (has_after i)

  -- ---- a node alone, and before a row

  module _ (r : ℕ) (below rest : Forest) where
    pub join-plain : ¬ Superfluous G (node r below end) → ¬ Superfluous G rest → ¬ Superfluous G (node r below rest)
    join-plain s t (super_here o i) = s (super_here o i)
    join-plain s t (super_below i) = s (super_below i)
    join-plain s t (super_beside i) = t i

    pub join_free : (cover mask : ℕ) → Free G cover mask (node r below end) → Free G cover mask rest → Free G cover mask (node r below rest)
    join_free cover mask f g k h (has_here o e) = f k h (has_here o e)
    join_free cover mask f g k h (has_below i) = f k h (has_below i)
    join_free cover mask f g k h (has_beside i) = g k h i

    pub first_plain : ¬ Superfluous G (node r below rest) → ¬ Superfluous G (node r below end)
    first_plain s (super_here o i) = s (super_here o i)
    first_plain s (super_below i) = s (super_below i)
    first_plain s (super_beside i) = end-plain i

    pub first-free : (cover mask : ℕ) → Free G cover mask (node r below rest) → Free G cover mask (node r below end)
    first-free cover mask f k h (has_here o e) = f k h (has_here o e)
    first-free cover mask f k h (has_below i) = f k h (has_below i)
    first-free cover mask f k h (has_beside i) = end-free cover mask k h i

    pub beside-plain : ¬ Superfluous G (node r below rest) → ¬ Superfluous G rest
    beside-plain s i = s (super_beside i)

    pub beside-free : (cover mask : ℕ) → Free G cover mask (node r below rest) → Free G cover mask rest
    beside-free cover mask f k h i = f k h (has_beside i)

-- ---- a node over c bytes and the row below it, where the node's own nonterminal k joins the mask

module _ (G : Cfg) (c mask k r : ℕ) (o : Of G r k) (below : Forest) (size : length (yield below) ≡ c) where
  pub node-plain : ¬ Superfluous G below → Free G c (insert k mask) below → ¬ Superfluous G (node r below end)
  node-plain s f (super_here {k = j} p i) =
      f k (has-insert-same k mask) (subst (λ (x : ℕ). Has G x c below) (of-same-left p o) (subst (λ (x : ℕ). Has G j x below) size i))
  node-plain s f (super_below i) = s i
  node-plain s f (super_beside i) = end-plain G i

  pub node-free : has k mask ≡ false → Free G c (insert k mask) below → Free G c mask (node r below end)
  node-free fresh f j h (has_here p e) = true≢false (sym (ap (λ (x : ℕ). has x mask) (of-same-left o p) ∙ h) ∙ fresh)
  node-free fresh f j h (has_below i) = f j (has-insert j k mask h) i
  node-free fresh f j h (has_beside i) = end-free G c mask j h i

  pub node-fresh : Free G c mask (node r below end) → has k mask ≡ false
  node-fresh f = bool_false (has k mask) (λ h. f k h (has_here o size))

  pub below_free : ¬ Superfluous G (node r below end) → Free G c mask (node r below end) → Free G c (insert k mask) below
  below_free s f j h i = dite (ℕ_discrete j k)
      (λ e. s (super_here o (subst (λ (x : ℕ). Has G k x below) (sym size) (subst (λ (x : ℕ). Has G x c below) e i))))
      (λ d. f j (sym (has-insert-other j k mask d) ∙ h) (has_below i))
