-- A rule that is passed over has no suffix from i to j without a child over the whole span. An end whose bit is not set costs too much,
-- and so do the places after an end that is not a live start. Assumes nothing.
use Prim.Native.Nat.{ℕ, zero, suc, ◌+◌, ◌*◌, ◌-◌, ◌≤◌, ◌<◌}
use mathlib.Core.Bool.{Bool, true, false}
use mathlib.Core.List.{List, ◌∷◌}
use mathlib.Core.Path.{◌≡◌, refl, sym, subst, ◌∙◌}
use native.Mathlib.Decide.{dec_lt}
use native.Mathlib.Omega.{arith}
use lib.ListN.{get_or}
use Rattle.sizes.specs.Sizes.{too_many}
use Rattle.laws.proofs.Bools.{true-false, bool_false}
use Rattle.sets.specs.Set.{has}
use Rattle.sets.proofs.Laws.{has-insert, has-insert-same}
use Rattle.cfg.specs.Grammar.{Symbol}
use Rattle.chart.specs.Cell.{Fit}
use Rattle.theory_costs.specs.Cut.{Cost, Cut, cut_end, cut_leaf, cut_node, within}
use Rattle.theory_costs.proofs.Lowest.{lowest-none}
use Rattle.theory_costs.proofs.Within.{within-whole, within-part}
use Rattle.packed.specs.Packed.{place_count, places_from}
use Rattle.fill_reach.specs.Reach.{CanBegin}
use Rattle.fill_reach.proofs.Passing.{cannot-inside, cannot-meet}
use Rattle.table_layout.specs.Layout.{cost_in, full_in, rows_size}
use Rattle.table_suffix.specs.Within.{tail_in, InsideCost, LaterStarts}
use Rattle.table_write.specs.Writes.{Nothing}
use Rattle.table_live.specs.Live.{live_in, LiveTold, ReachedOnly}

-- one place and those after it: for each end of the place, the place or those after it cost too much
module _ {fit : Fit} {cost : Cost} {i j : ℕ} {places : List Symbol}
    (same : (v : ℕ) → Cut fit cost j places i v → too_many ≤ v)
    (next : (v : ℕ) → Cut fit cost j places (suc i) v → too_many ≤ v)
    (part : (k c v : ℕ) → i < c → c < j → Cut fit cost j places c v → too_many ≤ cost k i c + v)
    (whole : (k : ℕ) → too_many ≤ cost k i j) where
  node : (k c v : ℕ) → i ≤ c → c ≤ j → Cut fit cost j places c v → Dec (i < c) → Dec (c < j) → too_many ≤ cost k i c + v
  node k c v h l d (no n) m =
      let e : c ≡ i = omega arith in
      let x = same v (subst (λ (z : ℕ). Cut fit cost j places z v) e d) in
      omega arith
  node k c v h l d (yes n) (yes m) = part k c v n m d
  node k c v h l d (yes n) (no m) =
      let e : j ≡ c = omega arith in
      let x = subst (λ (z : ℕ). too_many ≤ cost k i z) e (whole k) in
      omega arith

  pub place-passed : {s : Symbol} (u : ℕ) → Cut fit cost j (s ∷ places) i u → too_many ≤ u
  place-passed u (cut_leaf m q d) = next u d
  place-passed u (cut_node {k} {v = v} c h l d e) = let x = node k c v h l d (dec_lt i c) (dec_lt c j) in omega arith

module _ (p : List ℕ) (r : ℕ) (tables full : List ℕ) (reach i j : ℕ) (rows live : List ℕ) (l : i < j) {b : Bool} (fit : Fit)
    (P : CanBegin i j reach (get_or live r 0) b) (t : b ≡ false) (N : Nothing full) (R : ReachedOnly tables reach i j)
    (L : LiveTold p r i j rows live) (S : LaterStarts fit p r tables full i i j rows (rows_size * r)) where
  abbrev costs : Cost
  costs = within i j (full_in full) (cost_in tables)

  -- the places after the first cost too much from a start that is not live
  silent : (q c v : ℕ) → 0 < q → q ≤ place_count p r → i < c → c < j → live_in live r c ≡ false → Cut fit costs j (tail_in p r q) c v
      → too_many ≤ v
  silent q c v z h m n f d =
      let x = L c m n f q z h in
      let y = (S q c h m (omega arith)).below v d in
      omega arith

  -- an end inside costs too much: no nonterminal ends there, or it is not a live start
  inner : (q k c v : ℕ) → 0 < q → q ≤ place_count p r → i < c → c < j → Cut fit costs j (tail_in p r q) c v → (x : Bool) → live_in live r c ≡ x
      → too_many ≤ costs k i c + v
  inner q k c v z h m n d false f = let y = silent q c v z h m n f d in omega arith
  inner q k c v z h m n d true f =
      let y = R k c m n (bool_false (has c reach) (λ g. true-false f (cannot-meet P t c (has-insert c (i + 1) reach g)))) in
      let e : costs k i c ≡ cost_in tables k i c = within-part i j (full_in full) (cost_in tables) k i c (omega arith) in
      omega arith

  whole : (k : ℕ) → too_many ≤ costs k i j
  whole k = let e : costs k i j ≡ too_many = within-whole i j (full_in full) (cost_in tables) k ∙ N.none k in omega arith

  -- all suffixes cost too much, by induction from the last
  suffix : (n q : ℕ) → q + n ≡ place_count p r → (u : ℕ) → Cut fit costs j (places_from p r q n) i u → too_many ≤ u
  unfolding places_from
  suffix zero q e u (cut_end f) = absurd (omega arith)
  suffix (suc n) q e u d =
      let g : place_count p r - suc q ≡ n = omega arith in
      let move : (c v : ℕ) → Cut fit costs j (places_from p r (suc q) n) c v → Cut fit costs j (tail_in p r (suc q)) c v =
      λ c v. subst (λ (z : ℕ). Cut fit costs j (places_from p r (suc q) z) c v) (sym g)
      in
      place-passed
      (λ v. suffix n (suc q) (omega arith) v)
      (λ v x. silent (suc q) (suc i) v (omega arith) (omega arith) (omega arith) (let y = cannot-inside P t in omega arith)
      (let y : i + 1 ≡ suc i = omega arith in rw y at (cannot-meet P t (i + 1) (has-insert-same (i + 1) reach))) (move (suc i) v x))
      (λ k c v h m x. inner (suc q) k c v (omega arith) (omega arith) h m (move c v x) (live_in live r c) refl)
      whole u d

  pub passed_over : (s : ℕ) → s ≤ place_count p r → {v : ℕ} → v ≡ too_many → InsideCost fit tables full i j (tail_in p r s) i v
  passed_over s h e = rw e (lowest-none (λ u d. suffix (place_count p r - s) s (omega arith) u d))
