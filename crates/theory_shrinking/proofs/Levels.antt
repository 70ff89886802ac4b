-- The levels of nullable nonterminals: level h has exactly those with an empty tree of height at most h. Assumes nothing.
use Prim.Native.Nat.{ℕ, zero, suc, ◌^◌, ◌≤◌, ◌<◌}
use native.Mathlib.Decide.{ℕ_discrete}
use native.Mathlib.Omega.{arith}
use mathlib.Core.Bool.{Bool, true, false, cond}
use mathlib.Core.List.{List, [], ◌∷◌, ◌++◌, append-nil, cons-ne-nil}
use mathlib.Core.Logic.{dite}
use mathlib.Core.Option.{Option, none, some, some-injective, some-ne-none}
use mathlib.Core.Path.{◌≡◌, refl, sym, ap₂, ◌∙◌, subst}
use lib.ListN.{get_elem?}
use Rattle.laws.proofs.Bools.{true-false, and_parts, and_both}
use Rattle.sets.specs.Set.{has, insert}
use Rattle.sets.proofs.Laws.{has-empty, has-insert, has-insert-same, has-insert-other, insert-lt}
use Rattle.cfg.specs.Grammar.{Cfg, Rule, Symbol, nonterminal, terminal, joined, Of}
use Rattle.cfg.specs.Tree.{Forest, end, node, yield, height, Fits, fits_end, fits_leaf, fits_node, Parse}
use Rattle.cfg.specs.Nullable.{symbols_in, heads, level}
use Rattle.theory_shrinking.proofs.Nullable.{append-empty-left, append-empty-right}

-- ---- what a step from a level to the next one adds

-- what holds of the set, and of the set with a left side if the rule's places are in the level, holds of the result
added : (P : ℕ → Type 0) (b : Bool) (k found : ℕ) → P found → (b ≡ true → P (insert k found)) → P (cond b (insert k found) found)
added P true k found old new = new refl
added P false k found old new = old

module _ (set : ℕ) where
  heads-kept : (rules : List (Option Rule)) (found k : ℕ) → has k found ≡ true → has k (heads set rules found) ≡ true
  unfolding heads
  heads-kept [] found k h = h
  heads-kept (none ∷ rules) found k h = heads-kept rules found k h
  heads-kept (some ρ ∷ rules) found k h =
      heads-kept rules _ k (added (λ x. has k x ≡ true) (symbols_in set ρ.places) ρ.left found h (λ e. has-insert k ρ.left found h))

  -- the left side of a rule whose places are in the level is found
  heads-has : (rules : List (Option Rule)) (found r : ℕ) (ρ : Rule) → joined (get_elem? rules r) ≡ some ρ
      → symbols_in set ρ.places ≡ true → has ρ.left (heads set rules found) ≡ true
  unfolding heads joined
  heads-has [] found r ρ e p = absurd (some-ne-none ρ (sym e))
  heads-has (none ∷ rules) found zero ρ e p = absurd (some-ne-none ρ (sym e))
  heads-has (none ∷ rules) found (suc r) ρ e p = heads-has rules found r ρ e p
  heads-has (some σ ∷ rules) found zero ρ e p =
      let q : σ ≡ ρ = some-injective σ ρ e in
      heads-kept rules _ ρ.left (rw (q, p) (has-insert-same ρ.left found))
  heads-has (some σ ∷ rules) found (suc r) ρ e p = heads-has rules _ r ρ e p

  -- what is found was found before, or is the left side of such a rule
  heads-found : {P : Type 0} (rules : List (Option Rule)) (found k : ℕ) → has k (heads set rules found) ≡ true → (has k found ≡ true → P)
      → ((r : ℕ) (ρ : Rule) → joined (get_elem? rules r) ≡ some ρ → symbols_in set ρ.places ≡ true → ρ.left ≡ k → P) → P
  unfolding heads joined
  heads-found [] found k h before rule = before h
  heads-found (none ∷ rules) found k h before rule = heads-found rules found k h before (λ r ρ. rule (suc r) ρ)
  heads-found {P} (some ρ ∷ rules) found k h before rule =
      heads-found rules _ k h
      (added (λ x. has k x ≡ true → P) (symbols_in set ρ.places) ρ.left found before
      (λ e m. dite (ℕ_discrete k ρ.left) (λ p. rule 0 ρ refl e (sym p))
      (λ d. before (sym (has-insert-other k ρ.left found d) ∙ m))))
      (λ r σ. rule (suc r) σ)

  heads-word : (rules : List (Option Rule)) (found : ℕ) → ((r : ℕ) (ρ : Rule) → joined (get_elem? rules r) ≡ some ρ → ρ.left < 32)
      → found < 2 ^ 32 → heads set rules found < 2 ^ 32
  unfolding heads joined
  heads-word [] found low l = l
  heads-word (none ∷ rules) found low l = heads-word rules found (λ r. low (suc r)) l
  heads-word (some ρ ∷ rules) found low l =
      heads-word rules _ (λ r. low (suc r))
      (added (λ x. x < 2 ^ 32) (symbols_in set ρ.places) ρ.left found l (λ e. insert-lt ρ.left found (low 0 ρ refl) l))

module _ (G : Cfg) where
  pub level-word : ((r j : ℕ) → Of G r j → j < 32) → (h : ℕ) → level G h < 2 ^ 32
  unfolding level
  level-word low zero = omega arith
  level-word low (suc h) =
      heads-word (level G h) G.rules 0 (λ r ρ e. low r ρ.left (record { the = ρ; here = e; left = refl })) (omega arith)

  -- ---- an empty forest from empty trees

  -- what holds of the tree of each member of a set, and stays when trees are put side by side, holds of a forest for places in the set
  module _ (Q : Forest → Type 0) (nil : Q end) (beside : (r : ℕ) (below rest t : Forest) → Q (node r below rest) → Q t → Q (node r below t))
      (set : ℕ) (tree : (k : ℕ) → has k set ≡ true → (t : Forest) × Parse G k [] t × Q t) where
    abbrev EmptyForest : List Symbol → Type 0
    EmptyForest places = (t : Forest) × Fits G places t × (yield t ≡ []) × Q t

    join : {k : ℕ} {places : List Symbol} → (t : Forest) × Parse G k [] t × Q t → EmptyForest places → EmptyForest (nonterminal k ∷ places)
    unfolding yield
    join (u, (fits_node {r} {below} {rest} o b s, e), p) (t, f, n, q) = (
      node r below t,
      fits_node o b f,
      ap₂ (λ (x y : List ℕ). x ++ y) (append-empty-left (yield below) (yield rest) e) n,
      beside r below rest t p q,
    )

    pub empty-forest : (places : List Symbol) → symbols_in set places ≡ true → EmptyForest places
    unfolding symbols_in yield
    empty-forest [] e = (end, fits_end, refl, nil)
    empty-forest (nonterminal k ∷ places) e =
        let p = and_parts (has k set) (symbols_in set places) e in
        join (tree k p.0) (empty-forest places p.1)
    empty-forest (terminal t ∷ places) e = absurd (true-false e refl)

  -- ---- a member of level h has an empty tree of height at most h

  pub level-sound : (h k : ℕ) → has k (level G h) ≡ true → (t : Forest) × Parse G k [] t × (height t ≤ h)
  unfolding level yield height
  level-sound zero k m = absurd (true-false m (has-empty k))
  level-sound (suc h) k m = heads-found (level G h) G.rules 0 k m (λ n. absurd (true-false n (has-empty k))) (λ r ρ e p l.
      let (t, f, n, low) = empty-forest (λ t. height t ≤ h) (omega arith) (λ r b s u l m. omega arith) (level G h) (level-sound h)
      ρ.places p in
      (node r t end, (fits_node (record { the = ρ; here = e; left = l }) f fits_end, append-nil (yield t) ∙ n), omega arith))

  -- ---- and each nonterminal with such a tree is a member

  places-in : (h : ℕ) {places : List Symbol} {t : Forest} → Fits G places t → yield t ≡ [] → height t ≤ h
      → symbols_in (level G h) places ≡ true
  unfolding symbols_in yield height level
  places-in h fits_end e l = refl
  places-in h (fits_leaf {m} {rest} f s) e l = absurd (cons-ne-nil m (yield rest) e)
  places-in zero (fits_node {below} {rest} o f s) e l = absurd (omega arith)
  places-in (suc h) (fits_node {k} {r} {places} {below} {rest} o f s) e l =
      let b = places-in h f (append-empty-left (yield below) (yield rest) e) (omega arith) in
      let m = heads-has (level G h) G.rules 0 r o.the o.here b in
      and_both _ _ (subst (λ (j : ℕ). has j (level G (suc h)) ≡ true) o.left m)
      (places-in (suc h) s (append-empty-right (yield below) (yield rest) e) (omega arith))

  pub level-complete : (h k : ℕ) {t : Forest} → Parse G k [] t → height t ≤ h → has k (level G h) ≡ true
  unfolding symbols_in
  level-complete h k (f, e) l = (and_parts (has k (level G h)) true (places-in h f e l)).0
