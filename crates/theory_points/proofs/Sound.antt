-- What always holds of what remains: a grammar that check 8 lets through, at most 64 bytes, eight points, none set where more bytes
-- remained; the year is kept, and without learning the grammar too. Assumes nothing.
use Prim.Native.Nat.{ℕ, ◌≤◌, ◌<◌}
use mathlib.Core.Bool.{true}
use mathlib.Core.List.{List, [], ◌∷◌, ◌++◌, map}
use mathlib.Core.Logic.{dite}
use mathlib.Core.Option.{Option, none, some}
use mathlib.Core.Path.{◌≡◌, refl, sym, ◌∙◌, subst}
use native.Mathlib.Decide.{dec_lt}
use native.Mathlib.Omega.{arith}
use lib.ListN.{length, get_or, take, set, length-set, length-map, length-replicate, length-append}
use lib.Seq.{length-take-le}
use Rattle.sizes.specs.Sizes.{max_input, max_points}
use Rattle.grammar.specs.declared.Grammar.{Grammar}
use Rattle.grammar.specs.Valid.{valid_grammar}
use Rattle.results.specs.Learn.{Joining, faulty, longer, enlarged}
use Rattle.results.proofs.Learning.Valid.{enlarged-valid}
use Rattle.theory_points.specs.Machine.{Op, take_byte, set_point, return_to, learn, Remaining, remain, relearn}
use Rattle.theory_points.specs.Machine.{begun, Effect, point_up_to, moved, remainder, remains_after}
use Rattle.theory_points.proofs.Points.{Within, none_within, more_within, set-within, within-at, up-to-within}
use Rattle.theory_points.proofs.Moves.{take-goes, take-full, set-goes, set-over, return-goes, return-unset, learn-goes, learn-faulty}

pub record Sound (y : ℕ) (r : Remaining) : Type 0 where
  pub valid : valid_grammar r.grammar ≡ true
  pub year : r.year ≡ y
  pub short : length r.bytes ≤ max_input
  pub eight : length r.points ≡ max_points
  pub within : Within (length r.bytes) r.points

module _ (y : ℕ) where
  pub begun-sound : (g : Grammar) → valid_grammar g ≡ true → Sound y (begun g y)
  begun-sound g v = record {
    valid = v;
    year = refl;
    short = omega arith;
    eight = length-replicate {A = Option ℕ} max_points none;
    within = none_within 0 max_points;
  }

  module _ (r : Remaining) (s : Sound y r) where
    take-sound : (m : ℕ) → length r.bytes < max_input → Sound y (remain r (r.bytes ++ (m ∷ [])) r.points)
    take-sound m h = record {
      valid = s.valid;
      year = s.year;
      short = omega (arith, length-append r.bytes (m ∷ []));
      eight = s.eight;
      within = more_within (length r.bytes) _ r.points (omega (arith, length-append r.bytes (m ∷ []))) s.within;
    }

    set-sound : (k : ℕ) → Sound y (remain r r.bytes (set r.points k (some (length r.bytes))))
    set-sound k = record {
      valid = s.valid;
      year = s.year;
      short = s.short;
      eight = length-set r.points k (some (length r.bytes)) ∙ s.eight;
      within = set-within (length r.bytes) (length r.bytes) k r.points (omega arith) s.within;
    }

    return-sound : (p : ℕ) → p ≤ length r.bytes → Sound y (remain r (take p r.bytes) (map (point_up_to p) r.points))
    return-sound p h =
        let n = length-take-le p r.bytes h in
        record {
          valid = s.valid;
          year = s.year;
          short = omega (arith, n, s.short);
          eight = length-map r.points (point_up_to p) ∙ s.eight;
          within = subst (λ (m : ℕ). Within m (map (point_up_to p) r.points)) (sym n) (up-to-within p r.points);
        }

    learn-sound : (g : Grammar) → valid_grammar g ≡ true → Sound y (relearn r g)
    learn-sound g v = record { valid = v; year = s.year; short = s.short; eight = s.eight; within = s.within }

    -- what remains, if the operation goes through or is refused
    by_move : {x z : Effect} → x ≡ z → Sound y (remainder z r) → Sound y (remainder x r)
    by_move e t = subst (λ (x : Effect). Sound y (remainder x r)) (sym e) t

    returned-sound : (k : ℕ) (o : Option ℕ) → get_or r.points k none ≡ o → Sound y (remainder (moved (return_to k) r) r)
    unfolding remainder
    returned-sound k none e = by_move (return-unset r k e) s
    returned-sound k (some p) e =
        by_move (return-goes r k p e) (return-sound p (within-at (length r.bytes) p k r.points s.within e))

    learnt-sound : (bytes : List ℕ) (j : Joining) → enlarged r.grammar bytes ≡ j → Sound y (remainder (moved (learn bytes) r) r)
    unfolding remainder
    learnt-sound bytes (faulty f) e = by_move (learn-faulty r bytes f e) s
    learnt-sound bytes (longer g) e =
        by_move (learn-goes r bytes g e) (learn-sound g (enlarged-valid r.grammar g bytes s.valid e))

    pub move-sound : (op : Op) → Sound y (remainder (moved op r) r)
    unfolding remainder
    move-sound (take_byte m) = dite (dec_lt (length r.bytes) max_input)
        (λ h. by_move (take-goes r m h) (take-sound m h))
        (λ h. by_move (take-full r m (omega (arith, s.short))) s)
    move-sound (set_point k) = dite (dec_lt k max_points)
        (λ h. by_move (set-goes r k h) (set-sound k))
        (λ h. by_move (set-over r k (omega arith)) s)
    move-sound (return_to k) = returned-sound k (get_or r.points k none) refl
    move-sound (learn bytes) = learnt-sound bytes (enlarged r.grammar bytes) refl

  pub after-sound : (ops : List Op) (r : Remaining) → Sound y r → Sound y (remains_after ops r)
  unfolding remains_after
  after-sound [] r s = s
  after-sound (op ∷ ops) r s = after-sound ops (remainder (moved op r) r) (move-sound r s op)
