-- Sets, and the same with v for one span: where the two differ, and what cuts a span by each of them. Assumes nothing.
use Prim.Native.Nat.{ℕ, suc, ◌≤◌, ◌<◌}
use mathlib.Core.Bool.{true, and-false}
use mathlib.Core.List.{List}
use mathlib.Core.Logic.{◌≢◌, dite}
use mathlib.Core.Path.{◌≡◌, refl, sym, ap, ap₂, ◌∙◌, subst}
use native.Mathlib.Decide.{ℕ_discrete}
use native.Mathlib.Omega.{arith}
use lib.Dec.{eqb}
use borrow.Author.Tests.{eq-eqb, ne_eqb}
use Rattle.sets.specs.Set.{has}
use Rattle.cfg.specs.Grammar.{Symbol}
use Rattle.chart.specs.Cell.{Fit, cuts}
use Rattle.chart.proofs.Cut.{InSets, cut-mono, cuts→cut, cut→cuts, cuts-cong}
use Rattle.packed.specs.Packed.{symbol_in}
use Rattle.fill_rule.specs.Flags.{Sets, tail, Cutting, InnerCut, inner_leaf, inner_node, Inner, owned}
use Rattle.fill_rule.specs.Passes.{Within}

module _ (sets : Sets) (i n v : ℕ) where
  pub owned-here : owned sets i n v i n ≡ v
  unfolding owned
  owned-here = rw (eq-eqb i i refl, eq-eqb n n refl)

  pub owned-start : (a b : ℕ) → a ≢ i → owned sets i n v a b ≡ sets a b
  unfolding owned
  owned-start a b d = rw (ne_eqb a i d)

  pub owned-end : (a b : ℕ) → b ≢ n → owned sets i n v a b ≡ sets a b
  unfolding owned
  owned-end a b d = rw (ne_eqb b n d, and-false (eqb a i))

  -- what holds of v and of all sets of other spans holds of each set
  pub owned-cases : (P : ℕ → Type 0) (a b : ℕ) → (a ≡ i → b ≡ n → P v) → (a ≢ i → P (sets a b)) → (b ≢ n → P (sets a b))
      → P (owned sets i n v a b)
  owned-cases P a b x y z = dite (ℕ_discrete a i) (λ d. dite (ℕ_discrete b n)
      (λ e. subst P (sym (ap₂ (owned sets i n v) d e ∙ owned-here)) (x d e))
      (λ e. subst P (sym (owned-end a b e)) (z e)))
      (λ d. subst P (sym (owned-start a b d)) (y d))

-- ---- cuts

module _ (fit : Fit) (sets : Sets) (i n : ℕ) where
  -- a cut from a later start does not depend on the spans from i
  pub cuts-owned : (v a : ℕ) → i < a → a ≤ n → (places : List Symbol)
      → cuts fit (owned sets i n v) places a n ≡ cuts fit sets places a n
  cuts-owned v a l h = cuts-cong a n h (λ x t _. refl) (λ x b m _ _. owned-start sets i n v x b (omega arith))

  pub cutting-owned : (p : List ℕ) (v r a w : ℕ) → i < a → a ≤ n → Cutting fit sets p r a n w → Cutting fit (owned sets i n v) p r a n w
  cutting-owned p v r a w l h c q m = c q m ∙ sym (cuts-owned v a l h (tail p r q))

  pub inner-to : (v : ℕ) (s : Symbol) (rest : List Symbol) → InnerCut fit sets n s rest i → InnerCut fit (owned sets i n v) n s rest i
  inner-to v s rest (inner_leaf t e l f c) = inner_leaf t e l f (cuts-owned v (suc i) (omega arith) l rest ∙ c)
  inner-to v s rest (inner_node k b e l m h c) =
      inner_node k b e l m (ap (has k) (owned-end sets i n v i b (omega arith)) ∙ h) (cuts-owned v b l (omega arith) rest ∙ c)

  pub inner-from : (v : ℕ) (s : Symbol) (rest : List Symbol) → InnerCut fit (owned sets i n v) n s rest i → InnerCut fit sets n s rest i
  inner-from v s rest (inner_leaf t e l f c) = inner_leaf t e l f (sym (cuts-owned v (suc i) (omega arith) l rest) ∙ c)
  inner-from v s rest (inner_node k b e l m h c) =
      inner_node k b e l m (ap (has k) (sym (owned-end sets i n v i b (omega arith))) ∙ h)
      (sym (cuts-owned v b l (omega arith) rest) ∙ c)

  -- nor does an inner cut
  pub inner-owned : (p : List ℕ) (v r w : ℕ) → Inner fit sets p r i n w → Inner fit (owned sets i n v) p r i n w
  inner-owned p v r w h q l = (
    λ e. inner-to v (symbol_in p r q) (tail p r (suc q)) ((h q l).0 e),
    λ c. (h q l).1 (inner-from v (symbol_in p r q) (tail p r (suc q)) c),
  )

  -- what is cut with a set is cut with a larger one
  pub owned-mono : (v w : ℕ) → i ≤ n → Within v w → (places : List Symbol) → cuts fit (owned sets i n v) places i n ≡ true
      → cuts fit (owned sets i n w) places i n ≡ true
  owned-mono v w h s places e = cut→cuts fit (owned sets i n w) n h (cut-mono i n (λ a t _ q. q) part (omega arith)
      (cuts→cut fit (owned sets i n v) n places i h e))
    where
      part : (k a b : ℕ) → i ≤ a → a ≤ b → b ≤ n → InSets (owned sets i n v) k a b → InSets (owned sets i n w) k a b
      part k a b _ _ _ = owned-cases sets i n w (λ (x : ℕ). has k (owned sets i n v a b) ≡ true → has k x ≡ true) a b
          (λ d m q. s k (ap (has k) (sym (ap₂ (owned sets i n v) d m ∙ owned-here sets i n v)) ∙ q))
          (λ d q. ap (has k) (sym (owned-start sets i n v a b d)) ∙ q)
          (λ d q. ap (has k) (sym (owned-end sets i n v a b d)) ∙ q)
