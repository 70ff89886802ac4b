-- The row after a given one for the places of a rule, from one place on, over the span from i to j. The rest changes first, then the
-- child, then the child's end; else the row is last. Assumes nothing.
use Prim.Native.Nat.{ℕ, ◌+◌, ◌-◌, ◌*◌, ◌≤◌, ◌<◌}
use mathlib.Core.List.{List, [], ◌∷◌, ◌++◌}
use mathlib.Core.Path.{◌≡◌, refl, subst}
use native.Mathlib.Omega.{arith}
use lib.ListN.{length}
use Rattle.cfg.specs.Grammar.{Cfg, Symbol, nonterminal, terminal, Terminal}
use Rattle.cfg.specs.Tree.{Forest, nodes, code}
use Rattle.chart.specs.Cell.{Fit}
use Rattle.theory_listing.proofs.Unique.{length-code}
use Rattle.theory_costs.specs.Cut.{Cost, within}
use Rattle.theory_enumeration.specs.Rows.{Row, Tree, Share, SameSpan}
use Rattle.theory_enumeration.specs.Order.{Coded, Min, After, Last}
use Rattle.theory_enumeration.proofs.Rows.{row-budget, row-narrower}
use Rattle.theory_enumeration.proofs.First.{own_first}
use Rattle.theory_enumeration.proofs.Next.{end-last, own-next, own-last, leaf-next, leaf_last}
use Rattle.theory_enumeration.proofs.Next.{row-next-rest, row-next-child, row-next-cover, row_last}
use Rattle.theory_choices.specs.SpanCosts.{SpanCosts, Rests}
use Rattle.theory_choices.specs.Opened.{OpenedLeaf, OpenedRow}
use Rattle.theory_choices.proofs.Ties.{suffix-atleast}
use Rattle.theory_choices.proofs.Row.{end-skipped, end-share}
use Rattle.theory_choices.proofs.Stands.{end-stands}

-- ---- no places, and a terminal

-- nothing is after a row of no places
pub end-ends : {G : Cfg} {w : List ℕ} {cover mask a j budget : ℕ} {f : Forest} → j ≤ length w → a ≤ j
    → Row G w cover mask [] a j budget f → Last (Row G w cover mask [] a j budget) (code f)
end-ends known rising r = rw (end-stands known rising r).1 (end-last _)

module _ {G : Cfg} {w : List ℕ} {cover mask : ℕ} {t : Terminal} {places : List Symbol} {a j budget c : ℕ} {f g : Forest}
    (known : j ≤ length w) (o : OpenedLeaf G w cover mask t places a j budget f c g) where
  at_next : c ≡ a + 1
  at_next = omega arith

  -- the row after the leaf has a next one
  pub leaf-moves : {e : List ℕ} → After (Row G w cover mask places c j budget) (code g) e
      → After (Row G w cover mask (terminal t ∷ places) a j budget) (code f) e
  leaf-moves {e} m =
      leaf-next G w cover mask a j budget known places (omega arith) t o.more o.fit
      (subst (λ (d : List ℕ). After (Row G w cover mask places (a + 1) j budget) d e) o.coded
      (subst (λ (y : ℕ). After (Row G w cover mask places y j budget) (code g) e) at_next m))

  -- the row after the leaf is last
  pub leaf-ends : Last (Row G w cover mask places c j budget) (code g)
      → Last (Row G w cover mask (terminal t ∷ places) a j budget) (code f)
  leaf-ends m =
      leaf_last G w cover mask a j budget known places (omega arith) t o.more o.fit
      (subst (λ (d : List ℕ). Last (Row G w cover mask places (a + 1) j budget) d) o.coded
      (subst (λ (y : ℕ). Last (Row G w cover mask places y j budget) (code g)) at_next m))

-- ---- a nonterminal, before the costs are known: the budget itself is what the child may have

module _ {G : Cfg} {w : List ℕ} {cover mask k : ℕ} {places : List Symbol} {a j budget b n : ℕ} {f x y : Forest} (known : j ≤ length w)
    (o : OpenedRow G w cover mask k places a j budget f b x y) (count : n ≡ nodes x) where
  at_end : b ≡ a + (b - a)
  at_end = omega arith

  child-coded : {share : ℕ} → nodes x ≤ share → Coded (Tree G w cover mask k a (a + (b - a)) share) (code x)
  child-coded {share} l = record {
    forest = x;
    member = subst (λ (z : ℕ). Tree G w cover mask k a z share x) at_end (row-budget G w o.child l);
    coded = refl;
  }

  -- the rest is within what the child leaves
  pub rest-stands : Row G w cover mask places b j (budget - n) y
  rest-stands = row-budget G w o.others (omega (arith, o.others.small))

  others-coded : Coded (Row G w cover mask places (a + (b - a)) j (budget - n)) (code y)
  others-coded = record {
    forest = y;
    member = subst (λ (z : ℕ). Row G w cover mask places z j (budget - n) y) at_end rest-stands;
    coded = refl;
  }

  child-size : length (code x) ≡ 2 * n
  child-size = omega (arith, length-code x)

  -- the rest has a next one
  pub rest-moves : {e : List ℕ} → After (Row G w cover mask places b j (budget - n)) (code y) e
      → After (Row G w cover mask (nonterminal k ∷ places) a j budget) (code f) (code x ++ e)
  rest-moves {e} m =
      rw o.coded (row-next-rest G w cover mask a j budget known places (omega arith) k (b - a) budget n (omega arith) share
      (child-coded o.child.small) child-size others-coded
      (subst (λ (z : ℕ). After (Row G w cover mask places z j (budget - n)) (code y) e) at_end m))
    where
      share : Share G w cover mask k places a j budget (b - a) budget
      share = record { within = omega arith; enough = λ u v p q. p.small }

-- ---- a nonterminal, where the costs are known

module _ {G : Cfg} {w : List ℕ} {fit : Fit} {M i j : ℕ} {full : ℕ → ℕ} {least : Cost}
    (S : SpanCosts G w fit M i j full least) {k a budget b : ℕ} {places : List Symbol} {rest : ℕ → ℕ} {f x y : Forest} (h : i ≤ a)
    (R : Rests fit (within i j full least) places a j rest) (o : OpenedRow G w (j - i) M k places a j budget f b x y) where
  -- the given rest has at least the least number of nodes
  rest-nodes : rest b ≤ nodes y
  rest-nodes =
      suffix-atleast S budget (omega arith) o.inside (R b o.rising o.inside) y
      (row-budget G w o.others (omega (arith, o.others.small)))

  -- so it is within the budget, and the child within what it leaves
  pub rest-within : rest b ≤ budget
  rest-within = omega (arith, rest-nodes, o.others.small)

  child-within : nodes x ≤ budget - rest b
  child-within = omega (arith, rest-nodes, o.others.small, o.child.small)

  -- the child is within what the least rest leaves
  pub child-stands : {own : ℕ} → SameSpan (j - i) M (b - a) own → Tree G w (b - a) own k a b (budget - rest b) x
  child-stands s =
      row-narrower G w s (omega arith) (omega arith) (omega (arith, S.known)) x (row-budget G w o.child child-within)

  module _ {own n : ℕ} (s : SameSpan (j - i) M (b - a) own) (count : n ≡ nodes x)
      (rest-last : Last (Row G w (j - i) M places b j (budget - n)) (code y)) where
    -- the given child and rest, with the end written as start plus size
    child-there : Coded (Tree G w (j - i) M k a (a + (b - a)) (budget - rest b)) (code x)
    child-there = child-coded S.known o count child-within

    size-there : length (code x) ≡ 2 * n
    size-there = child-size S.known o count

    others-there : Coded (Row G w (j - i) M places (a + (b - a)) j (budget - n)) (code y)
    others-there = others-coded S.known o count

    last-there : Last (Row G w (j - i) M places (a + (b - a)) j (budget - n)) (code y)
    last-there = subst (λ (z : ℕ). Last (Row G w (j - i) M places z j (budget - n)) (code y)) (at_end S.known o count) rest-last

    -- the rest is last, and the child has a next one
    pub child-moves : (m : ℕ) {e g : List ℕ} → After (Tree G w (b - a) own k a b (budget - rest b)) (code x) e → length e ≡ 2 * m
        → Min (Row G w (j - i) M places b j (budget - m)) g
        → After (Row G w (j - i) M (nonterminal k ∷ places) a j budget) (code f) (e ++ g)
    child-moves m {e} {g} z size later =
        let at : b ≡ a + (b - a) = omega arith in
        rw o.coded (row-next-child G w (j - i) M a j budget S.known places (omega arith) k (b - a) (budget - rest b) n (omega arith)
        (end-share S h R o.rising o.inside) child-there size-there others-there last-there m
        (subst (λ (v : ℕ). After (Tree G w (j - i) M k a v (budget - rest b)) (code x) e) at
        (own-next G w (j - i) M a b (budget - rest b) (omega (arith, S.known)) (nonterminal k ∷ []) s (omega arith) (omega arith) z))
        size (subst (λ (v : ℕ). Min (Row G w (j - i) M places v j (budget - m)) g) at later))

    module _ (child-last : Last (Tree G w (b - a) own k a b (budget - rest b)) (code x)) where
      child-last-there : Last (Tree G w (j - i) M k a (a + (b - a)) (budget - rest b)) (code x)
      child-last-there =
          subst (λ (v : ℕ). Last (Tree G w (j - i) M k a v (budget - rest b)) (code x)) (at_end S.known o count)
          (own-last G w (j - i) M a b (budget - rest b) (omega (arith, S.known)) (nonterminal k ∷ []) s (omega arith) (omega arith)
          child-last)

      -- rest and child are last, and the next end within the budget is c
      pub cover-widens : {c wide : ℕ} (m : ℕ) {e g : List ℕ} → b < c → c ≤ j
          → ((d : ℕ) → b < d → d < c → budget < within i j full least k a d + rest d)
          → SameSpan (j - i) M (c - a) wide
          → Min (Tree G w (c - a) wide k a c (budget - rest c)) e → length e ≡ 2 * m
          → Min (Row G w (j - i) M places c j (budget - m)) g
          → After (Row G w (j - i) M (nonterminal k ∷ places) a j budget) (code f) (e ++ g)
      cover-widens {c} {wide} m {e} {g} p q dear s' first size later =
          let at : c ≡ a + (c - a) = omega arith in
          rw o.coded (row-next-cover G w (j - i) M a j budget S.known places (omega arith) k (b - a) (budget - rest b) n (omega arith)
          (end-share S h R o.rising o.inside) child-there size-there others-there last-there child-last-there
          (c - a) (budget - rest c) m (omega arith) (omega arith)
          (λ d u v. end-skipped S h R d (omega arith) (dear (a + d) (omega arith) (omega arith)))
          (end-share S h R (omega arith) q)
          (subst (λ (v : ℕ). Min (Tree G w (j - i) M k a v (budget - rest c)) e) at
          (own_first G w (j - i) M a c (budget - rest c) (omega (arith, S.known)) (nonterminal k ∷ []) s' (omega arith) (omega arith)
          first))
          size (subst (λ (v : ℕ). Min (Row G w (j - i) M places v j (budget - m)) g) at later))

      -- rest and child are last, and no later end is within the budget
      pub row_ends : ((d : ℕ) → b < d → d ≤ j → budget < within i j full least k a d + rest d)
          → Last (Row G w (j - i) M (nonterminal k ∷ places) a j budget) (code f)
      row_ends dear =
          rw o.coded (row_last G w (j - i) M a j budget S.known places (omega arith) k (b - a) (budget - rest b) n (omega arith)
          (end-share S h R o.rising o.inside) child-there size-there others-there last-there child-last-there
          (λ d u v. end-skipped S h R d v (dear (a + d) (omega arith) v)))
