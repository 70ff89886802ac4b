-- `points::setting` meets its contract. Assumes nothing.
use native.Mathlib.Omega.{arith}
use Rattle.points.proofs.Calls.{set-right}
use Rattle.points.proofs.setting.Statement.{statement}
use Rattle.points.proofs.setting.Tie as tie

returns : tie.Need-returns
returns c =
    let entry = c.before.before.before in
    set-right _ _ _ _ entry.requires.0 entry.requires.1 entry.requires.2 _ _ entry.requires.3 c.with_point.ensures
    c.before.says.ensures

pub setting_spec : {M : Type 1} → statement M
setting_spec = tie.close (tie.spec (λ c κs. omega arith) (λ c κs. omega arith) returns)
