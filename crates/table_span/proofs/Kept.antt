-- What is right so far stays right if the numbers that it speaks of stay, and grows by one span. It gives what the costs of rules are made
-- of. Assumes nothing.
use Prim.Native.Nat.{ℕ, ◌+◌, ◌*◌, ◌≤◌, ◌<◌}
use mathlib.Core.List.{List}
use mathlib.Core.Logic.{dite}
use mathlib.Core.Path.{◌≡◌, sym, subst, ◌∙◌}
use native.Mathlib.Decide.{dec_lt, ℕ_discrete}
use native.Mathlib.Omega.{arith}
use lib.ListN.{get_or}
use Rattle.sizes.specs.Sizes.{max_rules, max_places, side}
use Rattle.chart.specs.Cell.{Fit}
use Rattle.theory_costs.specs.Cut.{LeastCut}
use Rattle.theory_costs.specs.Lowest.{Lowest}
use Rattle.theory_costs.specs.Rule.{BareCost}
use Rattle.theory_costs.specs.Span.{TreeOver, Least, Inside}
use Rattle.theory_costs.proofs.Cut.{leastcut-same}
use Rattle.theory_costs.proofs.Rule.{node-same}
use Rattle.theory_costs.proofs.Span.{least-empty}
use Rattle.packed.specs.Packed.{place_count, places_in}
use Rattle.packed.proofs.Laws.{count-le}
use Rattle.table_suffix.specs.Within.{tail_in}
use Rattle.table_layout.specs.Layout.{cost_in, alone_in, bare_in}
use Rattle.table_layout.specs.Exact.{Packing, PastLast, SpanReady}
use Rattle.table_write.specs.Writes.{place_at}
use Rattle.table_span.specs.Sofar.{Done, Sofar}

module _ {fit : Fit} {bytes : ℕ → ℕ → Type 0} {p : List ℕ} {rules i j : ℕ} where
  -- the costs of the spans done, the `alone` costs, the costs without a child over the whole span and the rows are unchanged
  pub sofar-kept : {tables₀ rows₀ tables rows : List ℕ} → j < side → Sofar fit bytes p rules i j tables₀ rows₀
      → ((k a b : ℕ) → a ≤ b → b < side → Done i j a b → cost_in tables k a b ≡ cost_in tables₀ k a b)
      → ((r q : ℕ) → r < max_rules → q < max_places → alone_in tables r q ≡ alone_in tables₀ r q)
      → ((a b r : ℕ) → a < b → b < side → Done i j a b → r < rules → bare_in tables a b r ≡ bare_in tables₀ a b r)
      → ((r q c : ℕ) → r < rules → q ≤ place_count p r → i ≤ c → c ≤ j → get_or rows (place_at r q c) 0 ≡ get_or rows₀ (place_at r q c) 0)
      → Sofar fit bytes p rules i j tables rows
  sofar-kept {tables₀} {rows₀} {tables} {rows} l S costs alones bares starts = record {
    empty = S.empty;
    none = S.none;
    beside = λ r h q m. let c = count-le p r in alones r q h (omega arith) ∙ S.beside r h q m;
    least = λ k a b h m d. subst (λ (v : ℕ). Least (TreeOver (Packing p) bytes k a b) v) (sym (costs k a b h m d)) (S.least k a b h m d);
    without = λ a b r h m d n.
        subst (λ (v : ℕ). Lowest (BareCost fit (cost_in tables) (places_in p r) a b) v) (sym (bares a b r h m d n))
        (node-same (λ k c e x y z s. sym (costs k c e y (omega arith) (omega arith))) (S.without a b r h m d n));
    starts = λ r q c h m n o.
        subst (λ (v : ℕ). LeastCut fit (cost_in tables) (tail_in p r q) c j v) (sym (starts r q c h m n o))
        (leastcut-same c j (λ k a b x y z. sym (costs k a b y (omega arith) (omega arith))) (S.starts r q c h m n o));
  }

  -- one span more: its numbers, the costs of rules without a child over the whole span, and the costs from its start
  module _ {tables rows : List ℕ} (h : i ≤ j) (l : j < side) (S : Sofar fit bytes p rules (i + 1) j tables rows)
      (numbers : (k : ℕ) → Least (TreeOver (Packing p) bytes k i j) (cost_in tables k i j))
      (bare : i < j → (r : ℕ) → r < rules → Lowest (BareCost fit (cost_in tables) (places_in p r) i j) (bare_in tables i j r))
      (column : (r q : ℕ) → r < rules → q ≤ place_count p r
      → LeastCut fit (cost_in tables) (tail_in p r q) i j (get_or rows (place_at r q i) 0)) where
    -- a span that is done was done before, or is this one
    done_more : {A : Type 0} (a b : ℕ) → a ≤ b → b < side → Done i j a b → (Done (i + 1) j a b → A) → (a ≡ i → b ≡ j → A) → A
    done_more a b x y d old new = dite (dec_lt (128 * b + i) (128 * j + a)) (λ e. old (omega arith)) (λ e. new (omega arith) (omega arith))

    pub sofar-more : Sofar fit bytes p rules i j tables rows
    sofar-more = record {
      empty = S.empty;
      none = S.none;
      beside = S.beside;
      least = λ k a b x y d. done_more a b x y d (S.least k a b x y) (λ f g. rw (f, g) (numbers k));
      without = λ a b r x y d m.
          done_more a b (omega arith) y d (λ e. S.without a b r x y e m) (λ f g. rw (f, g) (bare (omega arith) r m));
      starts = λ r q c x y z w.
          dite (ℕ_discrete c i) (λ e. rw e (column r q x y)) (λ (e : ¬ (c ≡ i)). S.starts r q c x y (omega arith) w);
    }

  -- what the cost of a rule over the span from a to b is made of
  module _ {tables rows : List ℕ} (S : Sofar fit bytes p rules i j tables rows) (past : PastLast p rules) (a b : ℕ)
      (x : a < side) (y : b < side) (start : Done i j a a) (stop : Done i j b b)
      (bare : (r : ℕ) → r < rules → Lowest (BareCost fit (cost_in tables) (places_in p r) a b) (bare_in tables a b r)) where
    pub ready_by : SpanReady fit (cost_in tables) p tables a b
    ready_by = record {
      empty = S.empty;
      start = λ k. least-empty (S.least k a a (omega arith) x start) (S.none k);
      stop = λ k. least-empty (S.least k b b (omega arith) y stop) (S.none k);
      beside = S.beside;
      without = λ r h l. dite (dec_lt r rules) (bare r) (λ (m : ¬ (r < rules)). absurd (omega (arith, past r (omega arith) h)));
    }

  pub inside-by : {tables rows : List ℕ} → j < side → Sofar fit bytes p rules (i + 1) j tables rows
      → Inside (Packing p) bytes i j (cost_in tables)
  inside-by l S = record { at = λ k a b h m n s. S.least k a b m (omega arith) (omega arith) }
