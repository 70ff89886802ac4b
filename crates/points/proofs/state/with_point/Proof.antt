-- `points::state::with_point` meets its contract. Assumes nothing.
use native.Mathlib.Omega.{arith}
use Rattle.recognizer.proofs.Declared.{bytes-long}
use Rattle.recognizer.proofs.Copied.{front-state}
use Rattle.points.proofs.state.with_point.Statement.{statement}
use Rattle.points.proofs.state.with_point.Tie as tie

returns : tie.Need-returns
returns c =
    let entry = c.before.before in
    front-state _ (bytes-long entry.args.h _ entry.well_formed.0) _ _ _ _ entry.requires.0 c.before.front-bytes.ensures

pub with_point_spec : {M : Type 1} → statement M
with_point_spec = tie.close (tie.spec (λ c κs. omega arith) (λ c. omega arith) (λ c. omega arith) (λ c. omega arith) returns)
