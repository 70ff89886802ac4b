-- How the mask passes from a node to the row below it, which covers the same bytes or fewer.
-- Assumes nothing.
use Prim.Native.Nat.{ℕ, ◌≤◌}
use mathlib.Core.Bool.{Bool, true, false, true≢false}
use mathlib.Core.Path.{◌≡◌, refl, sym, ap, subst, ◌∙◌}
use native.Mathlib.Decide.{ℕ_discrete}
use native.Mathlib.Omega.{arith}
use lib.ListN.{length}
use Rattle.sets.specs.Set.{has, insert}
use Rattle.sets.proofs.Laws.{has-empty, has-insert-other, has-insert}
use Rattle.cfg.specs.Grammar.{Cfg, Of}
use Rattle.cfg.specs.Tree.{Forest, end, node, yield}
use Rattle.cfg.specs.Derivation.{Has, has_here, has_below, has_beside, Superfluous, super_here, super_below}
use Rattle.cfg.proofs.Of.{of-same-left}
use Rattle.cfg.proofs.Has.{has_within}
use Rattle.theory_enumeration.specs.Rows.{Free, SameSpan}
use Rattle.theory_enumeration.proofs.Free.{end-free, node-plain as node-plain-over}

-- `own` is the part of the mask that applies to the node
module _ (G : Cfg) (cover mask own k r : ℕ) (o : Of G r k) (below : Forest) where
  pub node-plain : ¬ Superfluous G below → Free G (length (yield below)) (insert k own) below → ¬ Superfluous G (node r below end)
  node-plain = node-plain-over G (length (yield below)) own k r o below refl

  module _ (span : SameSpan cover mask (length (yield below)) own) where
    -- a member of the mask over the bytes of the node is in `own`
    member : (j : ℕ) → length (yield below) ≡ cover → has j mask ≡ true → has j own ≡ true
    member j e h = ap (has j) (span.same e) ∙ h

    pub node-free : length (yield below) ≤ cover → has k own ≡ false → Free G (length (yield below)) (insert k own) below
        → Free G cover mask (node r below end)
    node-free narrow fresh f j h (has_here p e) =
        true≢false (sym (ap (λ (x : ℕ). has x own) (of-same-left o p) ∙ member j e h) ∙ fresh)
    node-free narrow fresh f j h (has_below i) = go (ℕ_discrete (length (yield below)) cover)
      where
        go : Dec (length (yield below) ≡ cover) → ⊥
        go (yes e) = f j (has-insert j k own (member j e h)) (subst (λ (x : ℕ). Has G j x below) (sym e) i)
        go (no d) =
            let l = has_within i in
            d (omega arith)
    node-free narrow fresh f j h (has_beside i) = end-free G cover mask j h i

    module _ (plain : ¬ Superfluous G (node r below end)) (free : Free G cover mask (node r below end)) where
      pub below_plain : ¬ Superfluous G below
      below_plain i = plain (super_below i)

      -- a member of `own` is in the mask, and the node covers `cover` bytes
      matters : (j : ℕ) → has j own ≡ true → (length (yield below) ≡ cover) × (has j mask ≡ true)
      matters j h = go (ℕ_discrete (length (yield below)) cover)
        where
          go : Dec (length (yield below) ≡ cover) → (length (yield below) ≡ cover) × (has j mask ≡ true)
          go (yes e) = (e, ap (has j) (sym (span.same e)) ∙ h)
          go (no d) = absurd (true≢false (sym h ∙ ap (has j) (span.other d) ∙ has-empty j))

      pub node-fresh : has k own ≡ false
      node-fresh = go (has k own) refl
        where
          go : (b : Bool) → has k own ≡ b → has k own ≡ false
          go true h =
              let m = matters k h in
              absurd (free k m.1 (has_here o m.0))
          go false h = h

      pub below_free : Free G (length (yield below)) (insert k own) below
      below_free j h i = go (ℕ_discrete j k)
        where
          go : Dec (j ≡ k) → ⊥
          go (yes e) = plain (super_here o (subst (λ (x : ℕ). Has G x (length (yield below)) below) e i))
          go (no d) =
              let m = matters j (sym (has-insert-other j k own d) ∙ h) in
              free j m.1 (has_below (subst (λ (x : ℕ). Has G j x below) m.0 i))
