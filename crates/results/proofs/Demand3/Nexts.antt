-- The machine over a first followed by enough nexts, each offered the copy: it hands out L, reading by reading, and then says "none".
-- Assumes nothing.
use Prim.Native.Nat.{ℕ, zero, suc, ◌+◌, ◌-◌, ◌≤◌}
use native.Mathlib.Nat.{zero-add, suc-add}
use native.Mathlib.Omega.{arith}
use mathlib.Core.List.{List, [], ◌∷◌, ◌++◌, map}
use mathlib.Core.Path.{◌≡◌, refl, sym, ap, ◌∙◌}
use lib.ListN.{drop, get_or, replicate, drop_of_length-le}
use lib.Seq.{drop-cons}
use Rattle.cfg.specs.Grammar.{Cfg}
use Rattle.cfg.specs.Tree.{HasTree}
use Rattle.cfg.specs.Listing.{L}
use Rattle.results.specs.Walk.{Call, first, next_copy, Said, hands, none_left, Move, move, N, reading, walk, walked}
use Rattle.results.proofs.Demand3.Machine.{first_some, next-some, next_last}

module _ (G : Cfg) (w : List ℕ) (tree : Dec (HasTree G w)) where
  -- the first answer and the rest, if the first move is known
  walked-move : (c : Call) (calls : List Call) (p q : ℕ) (s : Said) → walk G w tree c p ≡ move s q
      → walked G w tree (c ∷ calls) p ≡ s ∷ walked G w tree calls q
  unfolding walked
  walked-move c calls p q s m = ap (λ (k : Move). k.said ∷ walked G w tree calls k.place) m

  -- at the last reading each next says "none"
  pub nexts-at-end : (n i : ℕ) → N G w ≤ suc i → walked G w tree (replicate n next_copy) (suc i) ≡ replicate n none_left
  unfolding walked
  nexts-at-end zero i h = refl
  nexts-at-end (suc n) i h =
      walked-move next_copy (replicate n next_copy) (suc i) (suc i) none_left (next_last G w tree i h)
      ∙ ap (λ (l : List Said). none_left ∷ l) (nexts-at-end n i h)

  -- k readings before the end, the nexts hand out k readings and then say "none"
  pub nexts-to-end : (k n i : ℕ) → suc i + k ≡ N G w
      → walked G w tree (replicate (k + n) next_copy) (suc i) ≡ map hands (drop (suc i) (L G w)) ++ replicate n none_left
  nexts-to-end zero n i h =
      rw (zero-add n, drop_of_length-le (L G w) {i = suc i} (omega arith)) (nexts-at-end n i (omega arith))
  nexts-to-end (suc k) n i h =
      rw (suc-add k n, drop-cons (L G w) (suc i) [] (omega arith))
      (walked-move next_copy (replicate (k + n) next_copy) (suc i) (suc (suc i)) (hands (get_or (L G w) (suc i) []))
      (next-some G w tree i (omega arith))
      ∙ ap (λ (l : List Said). hands (get_or (L G w) (suc i) []) ∷ l) (nexts-to-end k n (suc i) (omega arith)))

  -- a first and n nexts, if L has at least one reading and at most n + 1
  pub first-nexts : (n p : ℕ) → 1 ≤ N G w → N G w ≤ suc n
      → walked G w tree (first ∷ replicate n next_copy) p ≡ map hands (L G w) ++ replicate (suc n - N G w) none_left
  first-nexts n p l h =
      walked-move first (replicate n next_copy) p 1 (hands (reading G w 1)) (first_some G w tree p l)
      ∙ ap (λ (s : List Said). hands (reading G w 1) ∷ s) later
      ∙ ap (λ (r : List (List ℕ)). map hands r ++ replicate (suc n - N G w) none_left) (sym (drop-cons (L G w) 0 [] l))
    where
      later : walked G w tree (replicate n next_copy) 1 ≡ map hands (drop 1 (L G w)) ++ replicate (suc n - N G w) none_left
      later =
          let e : (N G w - 1) + (suc n - N G w) ≡ n = omega arith in
          ap (λ (k : ℕ). walked G w tree (replicate k next_copy) 1) (sym e)
          ∙ nexts-to-end (N G w - 1) (suc n - N G w) 0 (omega arith)
