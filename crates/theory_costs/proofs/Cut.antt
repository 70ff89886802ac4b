-- The least cost of cutting a span: for no places, for a terminal and the rest, and for a nonterminal and the rest as a minimum over its
-- ends. It depends only on the costs of the spans inside, and of the nonterminals of the places. Assumes nothing.
use Prim.Native.Nat.{ℕ, suc, ◌+◌, ◌≤◌, ◌<◌, min}
use mathlib.Core.Bool.{true, false, true≢false}
use mathlib.Core.List.{List, [], ◌∷◌, Memᴰ}
use mathlib.Core.Path.{◌≡◌, refl, sym, ap, ◌∙◌}
use native.Mathlib.Omega.{arith}
use Rattle.sizes.specs.Sizes.{too_many}
use Rattle.cfg.specs.Grammar.{Symbol, nonterminal, terminal, Terminal}
use Rattle.chart.specs.Cell.{Fit}
use Rattle.theory_costs.specs.Lowest.{Lowest, NoNumber, Seen, seen_first, seen_at}
use Rattle.theory_costs.specs.Cut.{Cost, Cut, cut_end, cut_leaf, cut_node, First, LeastCut}
use Rattle.theory_costs.proofs.Lowest.{lowest-none, lowest-at, lowest-same, seen_step}

module _ {fit : Fit} {cost : Cost} {b : ℕ} where
  -- ---- no places

  pub leastcut-end : LeastCut fit cost [] b b 0
  leastcut-end = lowest-at (omega arith) (cut_end refl) (λ u c. omega arith)

  pub leastcut-end-short : {a : ℕ} → a < b → LeastCut fit cost [] a b too_many
  leastcut-end-short {a} l = lowest-none go
    where
      go : (u : ℕ) → Cut fit cost b [] a u → too_many ≤ u
      go _ (cut_end e) = absurd (omega arith)

  -- ---- a terminal and the rest

  pub leastcut-leaf : {t : Terminal} {places : List Symbol} {a v : ℕ} → a < b → fit a t ≡ true → LeastCut fit cost places (suc a) b v
      → LeastCut fit cost (terminal t ∷ places) a b v
  leastcut-leaf {t} {places} {a} l q = lowest-same (λ u _ c. cut_leaf l q c) (λ u _ c. (u, omega arith, go c))
    where
      go : {u : ℕ} → Cut fit cost b (terminal t ∷ places) a u → Cut fit cost b places (suc a) u
      go (cut_leaf m r c) = c

  pub leastcut-misfit : {t : Terminal} {places : List Symbol} {a : ℕ} → fit a t ≡ false
      → LeastCut fit cost (terminal t ∷ places) a b too_many
  leastcut-misfit {t} {places} {a} q = lowest-none go
    where
      go : (u : ℕ) → Cut fit cost b (terminal t ∷ places) a u → too_many ≤ u
      go _ (cut_leaf m r c) = absurd (true≢false (sym r ∙ q))

  pub leastcut-no-byte : {t : Terminal} {places : List Symbol} {a : ℕ} → b ≤ a → LeastCut fit cost (terminal t ∷ places) a b too_many
  leastcut-no-byte {t} {places} {a} l = lowest-none go
    where
      go : (u : ℕ) → Cut fit cost b (terminal t ∷ places) a u → too_many ≤ u
      go _ (cut_leaf m r c) = absurd (omega arith)

  -- ---- a nonterminal and the rest: the minimum over the ends, and its steps

  module _ {k : ℕ} {places : List Symbol} {a : ℕ} where
    pub leastcut-node : {v : ℕ} → Lowest (Seen NoNumber (First fit cost k places a b) a (suc b)) v
        → LeastCut fit cost (nonterminal k ∷ places) a b v
    leastcut-node = lowest-same (λ u _ s. cut s) (λ u _ c. (u, omega arith, seen c))
      where
        cut : {u : ℕ} → Seen NoNumber (First fit cost k places a b) a (suc b) u → Cut fit cost b (nonterminal k ∷ places) a u
        cut (seen_first p) = absurd p
        cut (seen_at c l m p) = cut_node c l (omega arith) p.cut p.sum

        seen : {u : ℕ} → Cut fit cost b (nonterminal k ∷ places) a u → Seen NoNumber (First fit cost k places a b) a (suc b) u
        seen (cut_node {v = v} c l m d e) = seen_at c l (omega arith) (record { later = v; cut = d; sum = e })

    module _ {c v x y : ℕ} (h : a ≤ c) (L : Lowest (Seen NoNumber (First fit cost k places a b) a c) v)
        (R : LeastCut fit cost places c b y) (e : x ≡ cost k a c + y) where
      reached : x < too_many → First fit cost k places a b c x
      reached l = record { later = y; cut = R.reached (omega arith); sum = e }

      below : (u : ℕ) → First fit cost k places a b c u → x ≤ u
      below u p = let m = R.below p.later p.cut in omega arith

      pub first_step : {z : ℕ} → z ≡ min v x → Lowest (Seen NoNumber (First fit cost k places a b) a (suc c)) z
      first_step = seen_step h L reached below

-- ---- only the costs of the nonterminals of the places count, over spans from i on, and only those that are at most the total

pub cut-map : {fit : Fit} {cost cost' : Cost} (i b n : ℕ) {places : List Symbol}
    → ((k a c : ℕ) → Memᴰ (nonterminal k) places → i ≤ a → a ≤ c → c ≤ b → cost k a c ≤ n → cost k a c ≡ cost' k a c)
    → {a u : ℕ} → i ≤ a → u ≤ n → Cut fit cost b places a u → Cut fit cost' b places a u
cut-map i b n p h l (cut_end e) = cut_end e
cut-map i b n p h l (cut_leaf m q c) = cut_leaf m q (cut-map i b n (λ k a c i. p k a c (Memᴰ.tail i)) (omega arith) l c)
cut-map {cost = cost} {cost'} i b n p {a} h l (cut_node {k} {v = v} c m m' d e) =
    let q : cost k a c ≡ cost' k a c = p k a c (Memᴰ.head refl) h m m' (omega arith) in
    cut_node c m m' (cut-map i b n (λ k a c i. p k a c (Memᴰ.tail i)) (omega arith) (omega arith) d) (e ∙ ap (λ (x : ℕ). x + v) q)

pub leastcut-same : {fit : Fit} {cost cost' : Cost} (a b : ℕ)
    → ((k c d : ℕ) → a ≤ c → c ≤ d → d ≤ b → cost k c d ≡ cost' k c d)
    → {places : List Symbol} {v : ℕ} → LeastCut fit cost places a b v → LeastCut fit cost' places a b v
leastcut-same a b p = lowest-same
    (λ u _ c. cut-map a b u (λ k c d _ l m h _. p k c d l m h) (omega arith) (omega arith) c)
    (λ u _ c. (u, omega arith, cut-map a b u (λ k c d _ l m h _. sym (p k c d l m h)) (omega arith) (omega arith) c))

pub leastcut-places : {fit : Fit} {cost cost' : Cost} {places : List Symbol} {a b v : ℕ}
    → ((k a c : ℕ) → Memᴰ (nonterminal k) places → cost k a c ≡ cost' k a c)
    → LeastCut fit cost places a b v → LeastCut fit cost' places a b v
leastcut-places {b = b} p = lowest-same
    (λ u _ c. cut-map 0 b u (λ k a c i _ _ _ _. p k a c i) (omega arith) (omega arith) c)
    (λ u _ c. (u, omega arith, cut-map 0 b u (λ k a c i _ _ _ _. sym (p k a c i)) (omega arith) (omega arith) c))
