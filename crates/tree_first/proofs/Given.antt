-- What is given of an input when a node is opened: the costs over its span, those of a rule, and those of a rule's places.
-- Assumes nothing.
use Prim.Native.Nat.{ℕ, ◌-◌, ◌≤◌, ◌<◌}
use mathlib.Core.List.{List}
use mathlib.Core.Logic.{dite}
use mathlib.Core.Path.{sym, subst}
use native.Mathlib.Decide.{dec_lt}
use native.Mathlib.Omega.{arith}
use lib.ListN.{length, get_or}
use Rattle.sizes.specs.Sizes.{max_rules, nonterminals, too_many}
use Rattle.cfg.specs.Grammar.{Symbol, Of}
use Rattle.chart.specs.Cell.{cell, fits_at}
use Rattle.theory_costs.specs.Lowest.{Lowest}
use Rattle.theory_costs.specs.Span.{bytes_of, FreeTree, Least, Inside}
use Rattle.theory_costs.specs.Rule.{NodeCost}
use Rattle.theory_costs.proofs.Span.{tells-input, least-reached}
use Rattle.theory_costs.proofs.Nodes.{tree-node}
use Rattle.theory_choices.specs.SpanCosts.{SpanCosts}
use Rattle.packed.specs.Packed.{left_in, place_count, places_in}
use Rattle.packed.proofs.Laws.{of-in}
use Rattle.table_layout.specs.Layout.{cost_in, full_in}
use Rattle.table_layout.specs.Exact.{Packing, PastLast}
use Rattle.table_suffix.specs.Within.{tail_in, row_at, InsideCost}
use Rattle.table_suffix.specs.Rows.{RowsPut}
use Rattle.table_solve.specs.Solve.{Solved, RuleOver}
use Rattle.table_solve.proofs.Trees.{solved-full}
use Rattle.tree_choose.specs.Chosen.{RulesPassed}
use Rattle.tree_first.specs.Descend.{InputGiven}

-- a nonterminal that has a tree has a rule
pub node-used : (p w : List ℕ) {mask k i j x : ℕ} → Least (FreeTree (Packing p) (bytes_of w) mask (j - i) k i j) x → x < too_many → k < 32
node-used p w {k = k} X l =
    let (t, T, b) = least-reached X l in
    let (r, o, f, g, q) = tree-node T.0.fitted in
    let (h, e, m, s) = of-in 0 p r k o in
    omega arith

-- a number that has a rule is below `rules`
pub rule-before : (p : List ℕ) (rules : ℕ) → PastLast p rules → (s : ℕ) → s < max_rules → left_in p s < nonterminals → s < rules
rule-before p rules past s u d = dite (dec_lt s rules) (λ q. q) (λ e. let z = past s (omega arith) u in absurd (omega arith))

module _ {p : List ℕ} {rules : ℕ} {fits chart tables w : List ℕ} (G : InputGiven p rules fits chart tables w) {i j : ℕ} (h : i ≤ j)
    (l : j ≤ length w) where
  inside : Inside (Packing p) (bytes_of w) i j (cost_in tables)
  inside = record { at = λ k a b x y z _. G.exact.least k a b y (omega arith) }

  pub span-solved : {own : ℕ} {full : List ℕ} → Solved p rules (cell chart i j) own tables i j full
      → SpanCosts (Packing p) w (fits_at w) own i j (full_in full) (cost_in tables)
  span-solved S = record {
    tells = tells-input w;
    rising = h;
    known = l;
    inside = inside;
    exact = solved-full S (fits_at w) (bytes_of w) (cost_in tables) (tells-input w) G.past (λ m. G.exact.ready i j m l) inside
        (G.cells i j h l);
  }

  pub rule-lowest : {r v : ℕ} {full : List ℕ} → RuleOver p r full tables i j v → left_in p r < 32
      → Lowest (NodeCost (fits_at w) (full_in full) (cost_in tables) (places_in p r) i j) v
  rule-lowest O m = O.exact m (fits_at w) (cost_in tables) (λ n. G.exact.ready i j n l)

  -- a rule of k that has been passed costs more than the budget
  pub passed-dearer : {from k budget r : ℕ} {full : List ℕ} → RulesPassed p rules from k full tables i j budget r → (s : ℕ) → from ≤ s
      → s < r → (o : Of (Packing p) s k)
      → (v : ℕ) × Lowest (NodeCost (fits_at w) (full_in full) (cost_in tables) o.the.places i j) v × (budget < v)
  passed-dearer {k = k} {full = full} P s n m o =
      let (u, c, d, f) = of-in 0 p s k o in
      let (v, R, b) = (P.beyond s n m (rule-before p rules G.past s u d)).cost c in (
        v,
        subst (λ (z : List Symbol). Lowest (NodeCost (fits_at w) (full_in full) (cost_in tables) z i j) v) (sym f) (rule-lowest R d),
        b,
      )

  pub rows_right : {r : ℕ} {full rows : List ℕ} → RowsPut p r fits tables full i j rows → (q c : ℕ) → q ≤ place_count p r → i ≤ c → c ≤ j
      → InsideCost (fits_at w) tables full i j (tail_in p r q) c (get_or rows (row_at 0 q c) 0)
  rows_right R = R.exact (fits_at w) (λ a s n m. G.told a s n (omega arith))
