-- What the machine must give in examples, each proved by computing it, for any grammar and any year. Assumes nothing.
use Prim.Native.Nat.{ℕ}
use mathlib.Core.List.{List, [], ◌∷◌, ◌++◌, map}
use mathlib.Core.Option.{Option, none, some}
use mathlib.Core.Path.{◌≡◌, refl}
use lib.ListN.{replicate}
use Rattle.grammar.specs.declared.Grammar.{Grammar}
use Rattle.theory_points.specs.Machine.{Op, take_byte, set_point, return_to, Remaining, remain, begun, refused_by, remains}
use Rattle.theory_points.specs.Machine.{point_up_to, returned, moved, remainder, remains_after}

unfoldable running : Unit {0}
unfolding point_up_to returned moved remainder remains_after
running = tt

module _ (g : Grammar) (y : ℕ) where
  -- what remains after these operations: the bytes and the points
  abbrev left : List Op → List ℕ × List (Option ℕ)
  left ops = let r = remains_after ops (begun g y) in (r.bytes, r.points)

  -- what remains with these bytes, and no point set
  abbrev holding : List ℕ → Remaining
  holding w = remain (begun g y) w (replicate 8 none)

  -- point 0 before any byte, 1 and 7 after one, 2 after two; a return to 1 keeps 0, itself and 7, and drops 2
  pub return_kept : left (set_point 0 ∷ take_byte 5 ∷ set_point 1 ∷ set_point 7 ∷ take_byte 6 ∷ set_point 2 ∷ take_byte 9 ∷ return_to 1 ∷ [])
      ≡ (5 ∷ [], some 0 ∷ some 1 ∷ replicate 5 none ++ (some 1 ∷ []))
  unfolding running
  return_kept = refl

  -- a point that is set again moves
  pub set-again : left (set_point 0 ∷ take_byte 5 ∷ set_point 0 ∷ take_byte 6 ∷ return_to 0 ∷ []) ≡ (5 ∷ [], some 1 ∷ replicate 7 none)
  unfolding running
  set-again = refl

  -- names over 7, and points that are not set
  pub no-point : map (λ (op : Op). moved op (begun g y)) (set_point 8 ∷ return_to 8 ∷ return_to 7 ∷ []) ≡ replicate 3 (refused_by 19 0)
  unfolding running
  no-point = refl

  pub last-point : left (set_point 7 ∷ []) ≡ ([], replicate 7 none ++ (some 0 ∷ []))
  unfolding running
  last-point = refl

  -- the 64th byte is taken, the 65th refused; a refused operation changes nothing
  pub full : moved (take_byte 1) (holding (replicate 64 2)) ≡ refused_by 15 0
  unfolding running
  full = refl

  pub almost-full : moved (take_byte 1) (holding (replicate 63 2)) ≡ remains (holding (replicate 63 2 ++ (1 ∷ [])))
  unfolding running
  almost-full = refl

  pub refused-kept : left (take_byte 5 ∷ set_point 3 ∷ set_point 8 ∷ return_to 2 ∷ [])
      ≡ (5 ∷ [], replicate 3 none ++ (some 1 ∷ replicate 4 none))
  unfolding running
  refused-kept = refl
