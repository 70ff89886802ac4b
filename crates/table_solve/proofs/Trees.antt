-- What solved numbers say of trees: for any bytes that agree with the fit, a tree reaches each, and no rule gives a lower one. So they are
-- the least numbers of nodes. Assumes nothing.
use Prim.Native.Nat.{ℕ, ◌≤◌, ◌<◌}
use mathlib.Core.Bool.{Bool, true, false}
use mathlib.Core.List.{List}
use mathlib.Core.Path.{◌≡◌, refl, sym, ap, subst, ◌∙◌}
use native.Mathlib.Decide.{dec_lt}
use native.Mathlib.Omega.{arith}
use Rattle.sizes.specs.Sizes.{too_many}
use Rattle.sets.specs.Set.{has}
use Rattle.cfg.specs.Grammar.{Symbol, Of}
use Rattle.chart.specs.Cell.{Fit}
use Rattle.theory_costs.specs.Cut.{Cost}
use Rattle.theory_costs.specs.Lowest.{Lowest}
use Rattle.theory_costs.specs.Rule.{NodeCost}
use Rattle.theory_costs.specs.Span.{Tells, Inside, Full}
use Rattle.theory_costs.specs.Solve.{SoundAt, Sound}
use Rattle.theory_costs.proofs.Solve.{rule-sound, rule-barren, solved}
use Rattle.packed.specs.Packed.{left_in}
use Rattle.packed.proofs.Laws.{of-in, in-of, in-of-places}
use Rattle.table_layout.specs.Layout.{full_in}
use Rattle.table_layout.specs.Exact.{Packing, PastLast, CellTrue, SpanReady}
use Rattle.table_solve.specs.Solve.{Reach, reach, Solved}

module _ {fit : Fit} {bytes : ℕ → ℕ → Type 0} {least : Cost} {p : List ℕ} {mask i j : ℕ} (tells : Tells fit bytes)
    (inside : Inside (Packing p) bytes i j least) where
  -- if a number is reached, a tree has that many nodes
  pub reach-sound : {k v : ℕ} → Reach fit least p mask i j k v → SoundAt (Packing p) bytes mask i j k v
  reach-sound {k} {v} (reach {r} full h e l m below L) =
      let u : left_in p r < 32 = omega arith in
      rule-sound (Packing p) tells mask i j full least inside (λ x. record { reached = λ y. (reach-sound (below x y)).reached y })
      (in-of 0 p r k h e u) m
      (subst (λ (s : List Symbol). Lowest (NodeCost fit full least s i j) v) (sym (in-of-places 0 p r k h e u)) L)

module _ {p : List ℕ} {rules cell mask : ℕ} {tables : List ℕ} {i j : ℕ} {full : List ℕ} (S : Solved p rules cell mask tables i j full)
    (fit : Fit) (bytes : ℕ → ℕ → Type 0) (least : Cost) (tells : Tells fit bytes) (past : PastLast p rules)
    (ready : i < j → SpanReady fit least p tables i j) (inside : Inside (Packing p) bytes i j least)
    (chart : CellTrue p bytes i j cell) where
  sound : Sound (Packing p) bytes mask i j (full_in full)
  sound k = record { reached = λ l. (reach-sound tells inside (S.reached.at fit least ready k l)).reached l }

  no_lower : (r k : ℕ) (o : Of (Packing p) r k) → has k mask ≡ false → (u : ℕ)
      → NodeCost fit (full_in full) least o.the.places i j u → full_in full k ≤ u
  no_lower r k o f u c = go (dec_lt r rules) (has k cell) refl
    where
      go : Dec (r < rules) → (x : Bool) → has k cell ≡ x → full_in full k ≤ u
      go (yes h) true g =
          let (a, d, l, s) = of-in 0 p r k o in
          subst (λ (y : ℕ). full_in full y ≤ u) d
          (S.settled r h fit least ready l (ap (λ (y : ℕ). has y cell) d ∙ g) (ap (λ (y : ℕ). has y mask) d ∙ f) u
          (subst (λ (y : List Symbol). NodeCost fit (full_in full) least y i j u) s c))
      go (yes h) false g =
          let b : too_many ≤ u = rule-barren (Packing p) tells mask i j (full_in full) least inside sound o (chart k g) c in
          omega (arith, S.numbers.capped k)
      go (no h) x g = let (a, d, l, s) = of-in 0 p r k o in absurd (omega (arith, past r (omega arith) a))

  -- solved numbers are the least numbers of nodes
  pub solved-full : Full (Packing p) bytes mask i j (full_in full)
  solved-full = solved (Packing p) tells mask i j (full_in full) least inside sound
      (record { capped = S.numbers.capped; settled = no_lower })
