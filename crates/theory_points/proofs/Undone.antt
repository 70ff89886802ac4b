-- Taking alone keeps the first 64 bytes; and a return leaves what remained when its point was set. Assumes nothing.
use Prim.Native.Nat.{ℕ, ◌≤◌, ◌<◌}
use mathlib.Core.List.{List, [], ◌∷◌, ◌++◌, map, append-nil}
use mathlib.Core.Logic.{dite}
use mathlib.Core.Option.{Option, none, some}
use mathlib.Core.Path.{◌≡◌, refl, sym, ap, ◌∙◌}
use native.Mathlib.Decide.{dec_lt}
use native.Mathlib.Omega.{arith}
use lib.ListN.{length, take, set, length-append}
use lib.Seq.{append_snoc, take_all, take-length, take-take, take-append-le, get_or-set_same}
use Rattle.sizes.specs.Sizes.{max_input, max_points}
use Rattle.theory_points.specs.Machine.{Op, take_byte, set_point, return_to, Remaining, remain, Effect}
use Rattle.theory_points.specs.Machine.{point_up_to, moved, remainder, remains_after}
use Rattle.theory_points.proofs.Points.{set-within, up-to-same}
use Rattle.theory_points.proofs.Moves.{take-goes, take-full, set-goes, return-goes}
use Rattle.theory_points.proofs.Sound.{Sound}

-- one list of operations after another
pub after-append : (xs ys : List Op) (r : Remaining) → remains_after (xs ++ ys) r ≡ remains_after ys (remains_after xs r)
unfolding remains_after
after-append [] ys r = refl
after-append (op ∷ xs) ys r = after-append xs ys (remainder (moved op r) r)

-- if one operation comes to x, the others go on from there
after-move : (op : Op) (ops : List Op) (r : Remaining) (x : Effect) → moved op r ≡ x
    → remains_after (op ∷ ops) r ≡ remains_after ops (remainder x r)
unfolding remains_after
after-move op ops r x e = ap (λ (z : Effect). remains_after ops (remainder z r)) e

-- ---- taking alone

-- the first 64 bytes remain, or all if there are fewer; points stay
pub takes-only : (ms : List ℕ) (r : Remaining) → length r.bytes ≤ max_input
    → remains_after (map take_byte ms) r ≡ remain r (take max_input (r.bytes ++ ms)) r.points
unfolding remains_after remainder
takes-only [] r h =
    ap (λ (w : List ℕ). remain r w r.points) (sym (ap (take max_input) (append-nil r.bytes) ∙ take_all max_input r.bytes h))
takes-only (m ∷ ms) r h = dite (dec_lt (length r.bytes) max_input)
    (λ l. after-move (take_byte m) (map take_byte ms) r _ (take-goes r m l)
    ∙ takes-only ms (remain r (r.bytes ++ (m ∷ [])) r.points) (omega (arith, length-append r.bytes (m ∷ [])))
    ∙ ap (λ (w : List ℕ). remain r (take max_input w) r.points) (append_snoc r.bytes m ms))
    (λ l. let e : length r.bytes ≡ max_input = omega arith in
    after-move (take_byte m) (map take_byte ms) r _ (take-full r m e)
    ∙ takes-only ms r h
    ∙ ap (λ (w : List ℕ). remain r w r.points) (front ms e ∙ sym (front (m ∷ ms) e)))
  where
    front : (w : List ℕ) → length r.bytes ≡ max_input → take max_input (r.bytes ++ w) ≡ take max_input r.bytes
    front w e = take-append-le max_input r.bytes w (omega arith)

-- ---- a point, any bytes, and the return to it

module _ (y : ℕ) (r : Remaining) (s : Sound y r) (k : ℕ) (named : k < max_points) (ms : List ℕ) where
  abbrev n : ℕ
  n = length r.bytes

  -- the points, with this one
  abbrev points : List (Option ℕ)
  points = set r.points k (some n)

  -- what remains after the bytes
  abbrev taken : Remaining
  taken = remain r (take max_input (r.bytes ++ ms)) points

  bytes_back : take n taken.bytes ≡ r.bytes
  bytes_back = take-take n max_input (r.bytes ++ ms) s.short ∙ take-append-le n r.bytes ms (omega arith) ∙ take-length r.bytes

  points-back : map (point_up_to n) points ≡ points
  points-back = up-to-same n points (set-within n n k r.points (omega arith) s.within)

  -- what remained at the point remains, and so does the point
  pub set-then-return : remains_after (set_point k ∷ (map take_byte ms ++ (return_to k ∷ []))) r ≡ remains_after (set_point k ∷ []) r
  unfolding remains_after remainder
  set-then-return =
      after-move (set_point k) (map take_byte ms ++ (return_to k ∷ [])) r _ (set-goes r k named)
      ∙ after-append (map take_byte ms) (return_to k ∷ []) (remain r r.bytes points)
      ∙ ap (remains_after (return_to k ∷ [])) (takes-only ms (remain r r.bytes points) s.short)
      ∙ after-move (return_to k) [] taken _
      (return-goes taken k n (get_or-set_same r.points k (some n) none (omega (arith, s.eight))))
      ∙ (λ i. remain r (bytes_back i) (points-back i))
      ∙ sym (after-move (set_point k) [] r _ (set-goes r k named))
