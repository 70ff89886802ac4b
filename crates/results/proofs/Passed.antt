-- The checks 8 to 11, 14 and 15: when each of them fails and when it is passed, in plain terms. Assumes nothing.
use Prim.Native.Nat.{ℕ, ◌≤◌, ◌<◌}
use mathlib.Core.Bool.{true, false, not}
use mathlib.Core.List.{List, [], ◌∷◌, ◌++◌}
use mathlib.Core.Path.{◌≡◌, ap}
use lib.ListN.{length}
use borrow.Author.Tests.{ltb-false, not-false, lt-ltb, le-ltb}
use Rattle.sizes.specs.Sizes.{cells, max_input, output_size}
use Rattle.grammar.specs.Valid.{valid_grammar}
use Rattle.grammar.specs.View.{Dated}
use Rattle.results.specs.Check.{input_check, input_checks}
use Rattle.results.specs.Enumerate.{output_check}
use Rattle.results.specs.Ready.{Ready, ReadyOut}
use Rattle.results.proofs.Decide.{Pass}

-- ---- 9

module _ (w : List ℕ) where
  pub input-fails : max_input < length w → (input_check w).fails ≡ true
  input-fails = lt-ltb max_input (length w)

  pub input-passes : length w ≤ max_input → (input_check w).fails ≡ false
  input-passes = le-ltb max_input (length w)

-- ---- 8 to 10, and 8 to 11

pub ready→pass : (g : Dated) (w chart : List ℕ) → Ready g w chart → Pass (input_checks g w chart)
ready→pass g w chart r =
    (ap not r.valid, (input-passes w r.short, (le-ltb (length chart) cells r.room, tt)))

pub pass→ready : (g : Dated) (w chart : List ℕ) → Pass (input_checks g w chart) → Ready g w chart
pass→ready g w chart (valid, (input, (room, u))) = record {
  valid = not-false (valid_grammar g.grammar) valid;
  short = ltb-false max_input (length w) input;
  room = ltb-false (length chart) cells room;
}

module _ (g : Dated) (w chart out : List ℕ) where
  pub ready_out→pass : ReadyOut g w chart out → Pass (input_checks g w chart ++ (output_check out ∷ []))
  ready_out→pass r =
      let (valid, (input, (room, u))) = ready→pass g w chart r.input in
      (valid, (input, (room, (le-ltb (length out) output_size r.space, u))))

  pub pass→ready_out : Pass (input_checks g w chart ++ (output_check out ∷ [])) → ReadyOut g w chart out
  pass→ready_out (valid, (input, (room, (space, u)))) =
      record { input = pass→ready g w chart (valid, (input, (room, u))); space = ltb-false (length out) output_size space }
