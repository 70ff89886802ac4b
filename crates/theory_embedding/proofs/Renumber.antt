-- A renumbered forest covers the same bytes, has as many nodes and the same height, and its code is renumbered. Assumes nothing.
use Prim.Native.Nat.{ℕ, suc, ◌+◌, max}
use mathlib.Core.List.{List, [], ◌∷◌, ◌++◌, append-nil, append_assoc}
use mathlib.Core.Path.{◌≡◌, refl, sym, ap, ap₂, ◌∙◌}
use lib.ListN.{length}
use Rattle.cfg.specs.Tree.{Forest, end, leaf, node, yield, nodes, height, code}
use Rattle.theory_embedding.specs.Embedding.{renumber, recode}

module _ (f : ℕ → ℕ) where
  pub renumber-yield : (t : Forest) → yield (renumber f t) ≡ yield t
  unfolding renumber yield
  renumber-yield end = refl
  renumber-yield (leaf m rest) = ap (◌∷◌ m) (renumber-yield rest)
  renumber-yield (node r below rest) = ap₂ ◌++◌ (renumber-yield below) (renumber-yield rest)

  pub renumber-nodes : (t : Forest) → nodes (renumber f t) ≡ nodes t
  unfolding renumber nodes
  renumber-nodes end = refl
  renumber-nodes (leaf m rest) = renumber-nodes rest
  renumber-nodes (node r below rest) = ap₂ (λ (a b : ℕ). suc (a + b)) (renumber-nodes below) (renumber-nodes rest)

  pub renumber-height : (t : Forest) → height (renumber f t) ≡ height t
  unfolding renumber height
  renumber-height end = refl
  renumber-height (leaf m rest) = renumber-height rest
  renumber-height (node r below rest) = ap₂ (λ (a b : ℕ). max (suc a) b) (renumber-height below) (renumber-height rest)

  -- a code has two numbers for each node, so what follows it is renumbered by itself
  recode-row : (t : Forest) (x : List ℕ) → recode f (code t ++ x) ≡ code (renumber f t) ++ recode f x
  unfolding renumber recode code
  recode-row end x = refl
  recode-row (leaf m rest) x = recode-row rest x
  recode-row (node r below rest) x =
      ap₂ (λ (w e : List ℕ). length w ∷ f r ∷ e) (sym (renumber-yield below))
      (ap (recode f) (append_assoc (code below) (code rest) x) ∙ recode-row below (code rest ++ x)
      ∙ ap (λ (e : List ℕ). code (renumber f below) ++ e) (recode-row rest x)
      ∙ sym (append_assoc (code (renumber f below)) (code (renumber f rest)) (recode f x)))

  pub renumber-code : (t : Forest) → code (renumber f t) ≡ recode f (code t)
  unfolding recode
  renumber-code t = sym (ap (recode f) (sym (append-nil (code t))) ∙ recode-row t [] ∙ append-nil (code (renumber f t)))

-- ---- where no number changes

pub renumber-same : (t : Forest) → renumber (λ r. r) t ≡ t
unfolding renumber
renumber-same end = refl
renumber-same (leaf m rest) = ap (leaf m) (renumber-same rest)
renumber-same (node r below rest) = ap₂ (node r) (renumber-same below) (renumber-same rest)

pub recode-same : (e : List ℕ) → recode (λ r. r) e ≡ e
unfolding recode
recode-same [] = refl
recode-same (cover ∷ []) = refl
recode-same (cover ∷ r ∷ e) = ap (λ (x : List ℕ). cover ∷ r ∷ x) (recode-same e)
