-- The nullable depth is exact if every rule's left side is below 32: it is the greatest, over the nullable nonterminals, of the height of
-- the lowest empty tree. Assumes nothing.
use Prim.Native.Nat.{ℕ, zero, suc, ◌+◌, ◌≤◌, ◌<◌}
use native.Mathlib.Decide.{ℕ_discrete, dec_lt}
use native.Mathlib.Omega.{arith}
use mathlib.Core.Bool.{true}
use mathlib.Core.List.{[]}
use mathlib.Core.Logic.{◌≢◌, dite}
use mathlib.Core.Path.{◌≡◌, refl, sym, ap, ◌∙◌}
use borrow.Author.Tests.{eq-eqb, ne_eqb}
use Rattle.laws.proofs.Bools.{true-false}
use Rattle.sets.specs.Set.{has}
use Rattle.sets.proofs.Laws.{fresh-member}
use Rattle.cfg.specs.Grammar.{Cfg, Of}
use Rattle.cfg.specs.Tree.{Forest, height, Parse}
use Rattle.cfg.specs.Nullable.{Nullable, Depth, level_above, level, first_height, depth_of, ExactDepth}
use Rattle.theory_shrinking.proofs.Nullable.{nullable-low}
use Rattle.theory_shrinking.proofs.Levels.{level-word, level-sound, level-complete}

module _ (G : Cfg) where
  -- ---- the first height whose level is `top`

  pub height-here : (top n h set : ℕ) → set ≡ top → first_height G top n h set ≡ h
  unfolding first_height
  height-here top zero h set e = refl
  height-here top (suc n) h set e = rw (eq-eqb set top e)

  pub height-above : (top n h set : ℕ) → set ≢ top → first_height G top (suc n) h set ≡ first_height G top n (suc h) (level_above G set)
  unfolding first_height
  height-above top n h set d = rw (ne_eqb set top d)

  -- d is the first height from h on, up to m, whose level is `top`
  record FirstHeight (top h m d : ℕ) : Type 0 where
    pub from : h ≤ d
    pub up_to : d ≤ m
    pub there : level G d ≡ top
    pub before : (j : ℕ) → h ≤ j → j < d → level G j ≢ top

  first-height : (top n h set : ℕ) → set ≡ level G h → level G (h + n) ≡ top → FirstHeight top h (h + n) (first_height G top n h set)
  unfolding first_height level
  first-height top zero h set s e =
      let z : h + 0 ≡ h = omega arith in
      record { from = omega arith; up_to = omega arith; there = sym (ap (level G) z) ∙ e; before = λ j a b. absurd (omega arith) }
  first-height top (suc n) h set s e =
      let m : suc h + n ≡ h + suc n = omega arith in
      dite (ℕ_discrete set top)
      (λ t. rw (height-here top (suc n) h set t) (record {
        from = omega arith;
        up_to = omega arith;
        there = sym s ∙ t;
        before = λ j a b. absurd (omega arith);
      }))
      (λ t. rw (height-above top n h set t)
      (later t (first-height top n (suc h) (level_above G set) (ap (level_above G) s) (ap (level G) m ∙ e))))
    where
      later : {d : ℕ} → set ≢ top → FirstHeight top (suc h) (suc h + n) d → FirstHeight top h (h + suc n) d
      later f F = record {
        from = omega (arith, F.from);
        up_to = omega (arith, F.up_to);
        there = F.there;
        before = λ j a b. dite (ℕ_discrete j h)
            (λ p q. f (s ∙ sym (ap (level G) p) ∙ q))
            (λ p. F.before j (omega arith) b);
      }

  depth-first : FirstHeight (level G 32) 0 32 (depth_of G)
  unfolding depth_of level
  depth-first = first-height (level G 32) 32 0 0 refl refl

  pub depth_small : depth_of G ≤ 32
  depth_small = depth-first.up_to

  -- ---- the depth is exact

  module _ (low : (r j : ℕ) → Of G r j → j < 32) where
    -- level 32 has every nullable nonterminal
    pub level_all : (k : ℕ) → Nullable G k → has k (level G 32) ≡ true
    level_all k (t, p) = let (u, q, l) = nullable-low G low p in level-complete G 32 k q l

    pub depth-exact : ExactDepth G (depth_of G)
    depth-exact = record {
      small = depth_small;
      reached = λ k n. level-sound G (depth_of G) k (ap (has k) depth-first.there ∙ level_all k n);
      needed = needed (depth_of G) depth-first;
    }
      where
        needed : (d : ℕ) → FirstHeight (level G 32) 0 32 d → 0 < d
            → (k : ℕ) × Nullable G k × ((t : Forest) → Parse G k [] t → d ≤ height t)
        needed zero F l = absurd (omega arith)
        needed (suc d) F l =
            let risen : (k : ℕ) → has k (level G d) ≡ true → has k (level G 32) ≡ true =
            λ k m. let (t, p, h) = level-sound G d k m in level-complete G 32 k p (omega (arith, F.up_to)) in
            let (k, lacks, has32) = fresh-member (level G d) (level G 32) (level-word G low d) (level-word G low 32) risen
            (F.before d (omega arith) (omega arith)) in
            let (t, p, h) = level-sound G 32 k has32 in (
              k,
              (t, p),
              λ u q. dite (dec_lt (height u) (suc d))
                  (λ b. absurd (true-false (level-complete G d k q (omega arith)) lacks))
                  (λ b. omega arith),
            )

    -- what document 01 says of a depth
    pub depth-before : Depth G (depth_of G)
    depth-before = record { small = depth-exact.small; zero = none (depth_of G) depth-exact; reached = depth-exact.reached }
      where
        none : (d : ℕ) → ExactDepth G d → ((k : ℕ) → Nullable G k → ⊥) → d ≡ 0
        none d E f = dite (dec_lt 0 d) (λ l. let (k, n, m) = E.needed l in absurd (f k n)) (λ l. omega arith)
