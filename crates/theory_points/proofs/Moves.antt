-- One operation of the machine, by the condition that decides it. Assumes nothing.
use Prim.Native.Nat.{ℕ, ◌≤◌, ◌<◌}
use mathlib.Core.List.{List, [], ◌∷◌, ◌++◌, map}
use mathlib.Core.Option.{none, some}
use mathlib.Core.Path.{◌≡◌, ap}
use native.Mathlib.Omega.{arith}
use lib.ListN.{length, get_or, take, set}
use borrow.Author.Tests.{lt-ltb, le-ltb, eq-eqb, ne_eqb}
use Rattle.sizes.specs.Sizes.{max_input, max_points}
use Rattle.grammar.specs.declared.Grammar.{Grammar}
use Rattle.results.specs.Load.{Fault}
use Rattle.results.specs.Learn.{Joining, faulty, longer, enlarged}
use Rattle.theory_points.specs.Machine.{take_byte, set_point, return_to, learn, Remaining, remain, relearn, Effect, refused_by, remains}
use Rattle.theory_points.specs.Machine.{point_up_to, returned, moved}

module _ (r : Remaining) where
  pub take-goes : (m : ℕ) → length r.bytes < max_input → moved (take_byte m) r ≡ remains (remain r (r.bytes ++ (m ∷ [])) r.points)
  unfolding moved
  take-goes m h = rw (ne_eqb (length r.bytes) max_input (omega arith), moved)

  pub take-full : (m : ℕ) → length r.bytes ≡ max_input → moved (take_byte m) r ≡ refused_by 15 0
  unfolding moved
  take-full m e = rw (eq-eqb (length r.bytes) max_input e, moved)

  pub set-goes : (k : ℕ) → k < max_points
      → moved (set_point k) r ≡ remains (remain r r.bytes (set r.points k (some (length r.bytes))))
  unfolding moved
  set-goes k h = rw (lt-ltb k max_points h, moved)

  pub set-over : (k : ℕ) → max_points ≤ k → moved (set_point k) r ≡ refused_by 19 0
  unfolding moved
  set-over k h = rw (le-ltb k max_points h, moved)

  pub return-goes : (k p : ℕ) → get_or r.points k none ≡ some p
      → moved (return_to k) r ≡ remains (remain r (take p r.bytes) (map (point_up_to p) r.points))
  unfolding moved returned
  return-goes k p e = ap (λ o. returned o r) e

  pub return-unset : (k : ℕ) → get_or r.points k none ≡ none → moved (return_to k) r ≡ refused_by 19 0
  unfolding moved returned
  return-unset k e = ap (λ o. returned o r) e

  -- what a rule's bytes come to, by what they make of the grammar
  abbrev learning : Joining → Effect
  learning j = elim j [ faulty f ↦ refused_by f.number f.offset | longer g ↦ remains (relearn r g) ]

  pub learn-goes : (bytes : List ℕ) (g : Grammar) → enlarged r.grammar bytes ≡ longer g → moved (learn bytes) r ≡ remains (relearn r g)
  unfolding moved
  learn-goes bytes g e = ap learning e

  pub learn-faulty : (bytes : List ℕ) (f : Fault) → enlarged r.grammar bytes ≡ faulty f
      → moved (learn bytes) r ≡ refused_by f.number f.offset
  unfolding moved
  learn-faulty bytes f e = ap learning e
