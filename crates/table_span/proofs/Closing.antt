-- One span is done: from its numbers to the rows, and the empty span. Assumes nothing.
use Prim.Native.Nat.{ℕ, zero, suc, ◌+◌, ◌*◌, ◌-◌, ◌≤◌, ◌<◌}
use mathlib.Core.Bool.{Bool, true, false}
use mathlib.Core.List.{List, Memᴰ}
use mathlib.Core.Path.{◌≡◌, refl, sym, subst}
use native.Mathlib.Omega.{arith}
use Rattle.sizes.specs.Sizes.{too_many, max_rules, side}
use Rattle.laws.proofs.Bools.{clash}
use Rattle.sets.specs.Set.{has}
use Rattle.cfg.specs.Grammar.{nonterminal}
use Rattle.chart.specs.Cell.{Fit}
use Rattle.theory_costs.specs.Lowest.{Lowest}
use Rattle.theory_costs.specs.Rule.{BareCost}
use Rattle.theory_costs.specs.Span.{TreeOver, Least}
use Rattle.theory_costs.proofs.Lowest.{lowest-unique, lowest-none}
use Rattle.theory_costs.proofs.Cut.{leastcut-same, leastcut-places}
use Rattle.theory_costs.proofs.Within.{within-full, within-least, within_even, leastcut-later}
use Rattle.theory_costs.proofs.Rule.{node-same}
use Rattle.theory_costs.proofs.Span.{least-moved}
use Rattle.theory_costs.proofs.Plain.{least-unmasked}
use Rattle.packed.specs.Packed.{place_count, is_nonterminal_in, value_in, symbol_in, places_from, places_in}
use Rattle.packed.proofs.Laws.{count-le}
use Rattle.packed.proofs.Fitting.{symbol-nonterminal, symbol-terminal}
use Rattle.table_suffix.specs.Within.{tail_in, LaterStarts}
use Rattle.table_layout.specs.Layout.{alones_at, bare_at, cost_in, full_in, rows_size}
use Rattle.table_layout.specs.Exact.{Packing, CellTrue}
use Rattle.table_layout.proofs.Bares.{bare-behind}
use Rattle.table_solve.specs.Solve.{Solved}
use Rattle.table_solve.proofs.Trees.{solved-full}
use Rattle.table_write.specs.Writes.{LeastPut}
use Rattle.table_live.specs.Live.{ReachedOnly}
use Rattle.table_start.specs.Starts.{Untouched, OtherStarts, StartRight, StartsPut, SuffixesPut}
use Rattle.table_span.specs.Sofar.{Standing, SpanGiven, Sofar, OpenedSofar, LiveFrom}
use Rattle.table_span.specs.Spans.{SpanOpened, SpanPut, EmptyPut}
use Rattle.table_span.proofs.Kept.{sofar-kept, sofar-more, ready_by, inside-by}
use Rattle.table_span.proofs.Opening.{live_more}

-- ---- the nonterminals of a rule's places

-- if the symbol of a place is the nonterminal k, the place is a nonterminal with the value k
module _ (p : List ℕ) (r q k : ℕ) (e : nonterminal k ≡ symbol_in p r q) where
  place_is : (b : Bool) → is_nonterminal_in p r q ≡ b → (is_nonterminal_in p r q ≡ true) × (value_in p r q ≡ k)
  place_is true f = let g = symbol-nonterminal p r q f in (f, cc)
  place_is false f = let g = symbol-terminal p r q f in clash cc

-- a nonterminal among the places is at one of them
pub places-have : (p : List ℕ) (r n a : ℕ) {k : ℕ} → Memᴰ (nonterminal k) (places_from p r a n)
    → (q : ℕ) × (a ≤ q) × (q < a + n) × (is_nonterminal_in p r q ≡ true) × (value_in p r q ≡ k)
unfolding places_from
places-have p r zero a m = elim m [ ]
places-have p r (suc n) a {k} (Memᴰ.head e) =
    let (f, g) = place_is p r a k e (is_nonterminal_in p r a) refl in
    (a, omega arith, omega arith, f, g)
places-have p r (suc n) a (Memᴰ.tail m) =
    let (q, x, y, f, g) = places-have p r n (suc a) m in
    (q, omega arith, omega arith, f, g)

-- ---- what writing the numbers of a span leaves right

module _ {i j : ℕ} {full tables₀ tables : List ℕ} (l : j < side) (L : LeastPut full i j tables₀ tables) where
  -- the costs of smaller spans inside
  part_same : (k a b : ℕ) → a ≤ b → b ≤ j → b - a < j - i → cost_in tables₀ k a b ≡ cost_in tables k a b
  part_same k a b x y s = sym (L.other k a b (omega arith) (omega arith) (λ e. let u = e.0 in let v = e.1 in omega arith))

  -- what is right for the later starts
  behind-kept : {fit : Fit} {bytes : ℕ → ℕ → Type 0} {p : List ℕ} {rules : ℕ} {rows₀ rows : List ℕ}
      → Sofar fit bytes p rules (i + 1) j tables₀ rows₀ → rules ≤ max_rules → OtherStarts i rows₀ rows
      → Sofar fit bytes p rules (i + 1) j tables rows
  behind-kept {p = p} S o O = sofar-kept l S
      (λ k a b x y d. L.other k a b (omega arith) y (λ e. let u = e.0 in let v = e.1 in omega arith))
      (λ r q x y. L.rest (alones_at + 8 * r + q) (omega arith))
      (λ a b r x y d m. L.rest (bare_at a b r) (let u = bare-behind a b r in omega arith))
      (λ r q c x y z w. let m = count-le p r in O r q c (omega arith) (omega arith) (omega arith) (λ e. omega arith))

-- ---- a span that is not empty

module _ {fit : Fit} {bytes : ℕ → ℕ → Type 0} {p : List ℕ} {rules : ℕ} {fits : List ℕ} {members reach i j : ℕ}
    {full tables₀ rows₀ live₀ tables rows live : List ℕ} (o : rules ≤ max_rules) (h : i < j) (l : j < side)
    (X : Solved p rules members 0 tables₀ i j full) (L : LeastPut full i j tables₀ tables)
    (P : SuffixesPut p rules fits tables full members reach i j rows₀ live₀ rows live)
    (G : SpanGiven fit bytes p rules fits j) (C : CellTrue p bytes i j members) (O : OpenedSofar fit bytes p rules i j tables₀ rows₀)
    (R : ReachedOnly tables₀ reach i j) (T : LiveFrom p rules i j rows₀ live₀) where
  numbers : (k : ℕ) → Least (TreeOver (Packing p) bytes k i j) (full_in full k)
  numbers k =
      let R = ready_by O.sofar G.past i j (omega arith) l (omega arith) (omega arith) O.bare in
      least-unmasked
      ((solved-full X fit bytes (cost_in tables₀) G.tells G.past (λ _. R) (inside-by l O.sofar) C).at k)

  behind : Sofar fit bytes p rules (i + 1) j tables rows
  behind = behind-kept l L O.sofar o P.other

  -- the costs from the later starts, whatever the whole span costs
  later : (r : ℕ) → r < rules → LaterStarts fit p r tables full i i j rows₀ (rows_size * r)
  later r x q c y z w =
      leastcut-later (full_in full) i z
      (leastcut-same c j (λ k a b u v n. part_same l L k a b v n (omega arith)) (O.sofar.starts r q c x y (omega arith) w))

  -- a nonterminal that is not among the members has no number
  absent : (r q k : ℕ) → Untouched p r members → Memᴰ (nonterminal k) (tail_in p r q) → too_many ≡ full_in full k
  absent r q k U m =
      let (s, x, y, f, g) = places-have p r (place_count p r - q) q m in
      let e : has k members ≡ false = subst (λ (z : ℕ). has z members ≡ false) g (U.none s (omega arith) f) in
      lowest-unique (lowest-none (λ u t. absurd (C k e t.0 t.1))) (numbers k)

  untouched : (r : ℕ) → r < rules → Untouched p r members → StartRight fit p r tables full i j rows₀
  untouched r x U q y =
      leastcut-places (λ k a c m. within-full (λ _. too_many) (full_in full) (cost_in tables) i j k a c (absent r q k U m))
      (leastcut-same i j
      (λ k a b u v w. within-least (λ _. too_many) (cost_in tables₀) (cost_in tables) i j k a b u v w (part_same l L k a b v w))
      (O.column r q x y))

  ends : ReachedOnly tables reach i j
  ends k c x y f = let e = part_same l L k i c (omega arith) (omega arith) (omega arith) in let m = R k c x y f in omega arith

  pub span-done : Sofar fit bytes p rules i j tables rows
  span-done = sofar-more (omega arith) l behind
      (λ k. subst (λ (v : ℕ). Least (TreeOver (Packing p) bytes k i j) v) (sym (L.here k)) (numbers k))
      (λ _ r x. subst (λ (v : ℕ). Lowest (BareCost fit (cost_in tables) (places_in p r) i j) v)
      (sym (L.rest (bare_at i j r) (let u = bare-behind i j r in omega arith)))
      (node-same (λ k a b u v w s. part_same l L k a b v w s) (O.bare r x)))
      (λ r q x y. leastcut-same i j (λ k a b u v w. within_even (full_in full) (cost_in tables) i j k a b u v w (L.here k))
      (P.exact fit G.told ends r x (λ c u v f. T.told r c x (omega arith) v f) (later r x) (untouched r x) q y))

-- as the code does it
pub span-put : (p : List ℕ) (rules : ℕ) (fits : List ℕ) (members reach i j : ℕ)
    {full tables₀ rows₀ live₀ tables₁ rows₁ live₁ tables rows live : List ℕ} → rules ≤ max_rules → i < j → j < side
    → SpanOpened p rules fits reach i j tables₀ rows₀ live₀ tables₁ rows₁ live₁ → Solved p rules members 0 tables₁ i j full
    → LeastPut full i j tables₁ tables → SuffixesPut p rules fits tables full members reach i j rows₁ live₁ rows live
    → SpanPut p rules fits members reach i j tables₀ rows₀ live₀ tables rows live
span-put p rules fits members reach i j {rows₁ = rows₁} {live₁} o h l S X L P = record {
  long = L.long;
  wide = P.long;
  size = P.size;
  told = λ A.
      let L = S.told A in
      live_more {rows₀ = rows₁} {live₀ = live₁} o l P.other P.grown (λ r x. P.told r x (L.told r i x (omega arith) h))
      (record { told = λ r c x y. L.told r c x (omega arith) });
  exact = λ fit can G C R A D. span-done o h l X L P G C (S.exact fit can G.told R A D) (S.ends R) (S.told A);
}

-- ---- the empty span

pub empty-put : (p : List ℕ) (rules : ℕ) (fits empty : List ℕ) (j : ℕ) {tables₀ rows₀ tables rows : List ℕ} → rules ≤ max_rules → j < side
    → LeastPut empty j j tables₀ tables → StartsPut p rules fits tables empty j j rows₀ rows
    → EmptyPut p rules fits empty j tables₀ rows₀ tables rows
empty-put p rules fits empty j {tables = tables} o l L A = record {
  long = L.long;
  wide = A.long;
  exact = λ fit can F E S.
      sofar-more (omega arith) l (behind-kept l L S o A.other)
      (λ k. subst (λ (v : ℕ). Least (TreeOver (Packing p) (Standing can) k j j) v) (sym (L.here k)) (least-moved j (E k)))
      (λ x. absurd (omega arith))
      (λ r q x y. leastcut-same j j (λ k a b u v w. within_even (full_in empty) (cost_in tables) j j k a b u v w (L.here k))
      (A.exact fit F r x (λ s c u v w. absurd (omega arith)) q y));
}
