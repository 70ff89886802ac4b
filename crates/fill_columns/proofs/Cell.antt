-- The set with which the passes over one cell end is that cell of the column: it has nothing that the column lacks, since the column is
-- closed under the rules, and all that the column has, since the column is the least that is closed. Assumes nothing.
use Prim.Native.Nat.{ℕ, suc, ◌^◌, ◌≤◌, ◌<◌}
use mathlib.Core.Bool.{true}
use mathlib.Core.List.{List}
use mathlib.Core.Logic.{◌≢◌}
use mathlib.Core.Path.{◌≡◌, refl, sym, ap, ap₂, ◌∙◌, subst}
use native.Mathlib.Decide.{dec_lt}
use native.Mathlib.Omega.{arith}
use lib.ListN.{length}
use Rattle.sizes.specs.Sizes.{cells, max_input}
use Rattle.laws.proofs.Bools.{bool-ext}
use Rattle.sets.specs.Set.{has}
use Rattle.sets.proofs.Laws.{set-ext}
use Rattle.cfg.specs.Grammar.{Symbol, Of}
use Rattle.chart.specs.Cell.{Fit, cell, cuts}
use Rattle.chart.proofs.Cut.{Cut, InSets, cut-mono, cuts→cut, cut→cuts, cuts-cong}
use Rattle.chart.proofs.Cells.{in_column, column-lt}
use Rattle.chart.proofs.Inside.{Piece, ClosedBy, column-closed-by, column-inside}
use Rattle.chart.proofs.Written.{written-cell, written-cell-other}
use Rattle.packed.specs.Packed.{left_in, Used, places_in, cfg_in}
use Rattle.packed.proofs.Laws.{of-in, in-of, in-of-places, cfg-in-bounded, places-start}
use Rattle.fill_rule.specs.Flags.{Sets, tail, Cutting, owned}
use Rattle.fill_rule.specs.Passes.{Within, ClosedAt, RuleSettled}
use Rattle.fill_columns.specs.Columns.{column_by}
use Rattle.fill_rule.proofs.Owned.{owned-cases}

module _ (p : List ℕ) (fit : Fit) (found : List ℕ) (n : ℕ) (small : n ≤ max_input) (room : cells ≤ length found) where
  -- the sets of the chart with column n written
  abbrev full : Sets
  full = cell (column_by p fit n found)

  -- cell (a, n) of the column
  abbrev col : ℕ → ℕ
  col = in_column (cfg_in 0 p) fit found n

  full-earlier : (a b : ℕ) → b < n → full a b ≡ cell found a b
  full-earlier a b l = written-cell-other (cfg_in 0 p) fit n found small a b (omega arith) (λ e. absurd (omega arith))

  full-column : (a b : ℕ) → a ≤ n → b ≡ n → full a b ≡ col a
  full-column a b h e = ap (full a) e ∙ written-cell (cfg_in 0 p) fit n found small room a h

  -- what is in a cell, by its column
  piece-in : (k a b : ℕ) → a ≤ b → b ≤ n → has k (full a b) ≡ true → Piece found n (λ (j x : ℕ). has j (col x) ≡ true) k a b
  piece-in k a b l h e = (
    λ m. ap (has k) (sym (full-earlier a b m)) ∙ e,
    λ m. ap (has k) (sym (full-column a b (omega arith) (omega arith))) ∙ e,
  )

  -- the chart's own set changes nothing
  owned-full : (i a b : ℕ) → owned full i n (full i n) a b ≡ full a b
  owned-full i a b = owned-cases full i n (full i n) (λ (x : ℕ). x ≡ full a b) a b (λ d e. sym (ap₂ full d e)) (λ d. refl) (λ d. refl)

  module _ (i : ℕ) (order : i ≤ n) where
    pub column-closed-at : ClosedAt fit full p i n (full i n)
    column-closed-at r h l e =
        let o = in-of 0 p r (left_in p r) h refl l in
        let c : Cut fit (Piece found n (λ (j x : ℕ). has j (col x) ≡ true)) n o.the.places i =
        subst (λ (s : List Symbol). Cut fit (Piece found n (λ (j x : ℕ). has j (col x) ≡ true)) n s i)
        (sym (in-of-places 0 p r (left_in p r) h refl l))
        (cut-mono i n (λ a t _ q. q) (λ k a b _ m u q. piece-in k a b m u (ap (has k) (sym (owned-full i a b)) ∙ q)) (omega arith)
        (cuts→cut fit (owned full i n (full i n)) n (places_in p r) i order e)) in
        ap (has (left_in p r)) (full-column i n order refl)
        ∙ column-closed-by (cfg_in 0 p) fit found n (cfg-in-bounded 0 p) i r (left_in p r) order o c

    module _ (rules v : ℕ) (word : ℕ → ℕ) (used : Used p rules)
        (settled : (r : ℕ) → r < rules → RuleSettled fit full p r i n v (word r)) where
      -- v in the cell (i, n), the column in those of the later starts, and anything in those of the earlier ones
      abbrev From : ℕ → ℕ → Type 0
      From k a = (a ≡ i → has k v ≡ true) × (i < a → has k (col a) ≡ true)

      from-owned : (k a b : ℕ) → i ≤ a → a ≤ b → b ≤ n → Piece found n From k a b → InSets (owned full i n v) k a b
      from-owned k a b l m h q = owned-cases full i n v (λ (x : ℕ). has k x ≡ true) a b
          (λ d e. (q.1 (omega arith)).0 d)
          (λ d. at d (dec_lt b n))
          (λ d. let u : b ≢ n = d in before (omega arith))
        where
          before : b < n → has k (full a b) ≡ true
          before u = ap (has k) (full-earlier a b u) ∙ q.0 u

          at : a ≢ i → Dec (b < n) → has k (full a b) ≡ true
          at d (yes u) = before u
          at d (no u) =
              let e : a ≢ i = d in
              let g : n ≤ b = omega arith in
              ap (has k) (full-column a b (omega arith) (omega arith)) ∙ (q.1 g).1 (omega arith)

      here : (r k : ℕ) (o : Of (cfg_in 0 p) r k) → Cut fit (Piece found n From) n o.the.places i → has k v ≡ true
      here r k o c =
          let (h, e, l, s) = of-in 0 p r k o in
          let d : Cut fit (InSets (owned full i n v)) n (places_in p r) i =
          subst (λ (x : List Symbol). Cut fit (InSets (owned full i n v)) n x i) s
          (cut-mono i n (λ a t _ q. q) from-owned (omega arith) c) in
          subst (λ (x : ℕ). has x v ≡ true) e ((settled r (used r h l)).closed l
          ((settled r (used r h l)).exact 0 (omega arith)
          ∙ ap (λ (x : List Symbol). cuts fit (owned full i n v) x i n) (places-start p r)
          ∙ cut→cuts fit (owned full i n v) n order d))

      from-closed : ClosedBy (cfg_in 0 p) fit found n From
      from-closed a r k h o c = (
        λ d. here r k o (subst (Cut fit (Piece found n From) n o.the.places) d c),
        λ l. column-closed-by (cfg_in 0 p) fit found n (cfg-in-bounded 0 p) a r k h o
            (cut-mono a n (λ x t _ q. q) (λ j x b m _ _ q. (q.0, λ u. (q.1 u).1 (omega arith))) (omega arith) c),
      )

      column-within : Within (full i n) v
      column-within k e = (column-inside (cfg_in 0 p) fit found n From from-closed i k order
          (ap (has k) (sym (full-column i n order refl)) ∙ e)).0 refl

      pub cell-is : v < 2 ^ 32 → Within v (full i n) → v ≡ full i n
      cell-is b s = set-ext v (full i n) b
          (subst (λ (x : ℕ). x < 2 ^ 32) (sym (full-column i n order refl))
          (column-lt (cfg_in 0 p) (cfg-in-bounded 0 p) fit found n (suc n) i))
          (λ k _. bool-ext (has k v) (has k (full i n)) (s k) (column-within k))

      -- the flags are right for the column
      pub flags-are : v ≡ full i n → (r : ℕ) → r < rules → Cutting fit full p r i n (word r)
      flags-are e r h q l = (settled r h).exact q l
          ∙ cuts-cong i n order (λ a t _. refl) (λ a b _ _ _. ap (λ (x : ℕ). owned full i n x a b) e ∙ owned-full i a b) (tail p r q)
