-- `points::state::back` meets its contract. Assumes nothing.
use native.Mathlib.Omega.{arith}
use Rattle.recognizer.proofs.Declared.{bytes-long}
use Rattle.recognizer.proofs.Copied.{front-state}
use Rattle.results.specs.Recognize.{hand_of}
use lib.ListN.{take}
use mathlib.Core.List.{List}
use mathlib.Core.Path.{ap, ◌∙◌}
use Prim.Native.Nat.{ℕ}
use Rattle.points.proofs.state.back.Statement.{statement}
use Rattle.points.proofs.state.back.Tie as tie

returns : tie.Need-returns
returns c =
    let entry = c.before.before in
    front-state _ (bytes-long entry.args.h _ entry.well_formed.0) _ _ _ _ entry.requires c.before.front.ensures
    ∙ ap (λ (points : List ℕ). hand_of (take entry.args.n entry.args.h.bytes) points entry.args.h.year)
    c.points_up_to.ensures

pub back_spec : {M : Type 1} → statement M
back_spec = tie.close (tie.spec (λ c κs. omega arith) (λ c κs. omega arith) returns)
