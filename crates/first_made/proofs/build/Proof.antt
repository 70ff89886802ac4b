-- `first_made::build` meets its contract: the tables are right for the input. Assumes nothing.
use native.Mathlib.Omega.{arith}
use Rattle.first_made.proofs.Writing.{built}
use Rattle.first_made.proofs.build.Statement.{statement}
use Rattle.first_made.proofs.build.Tie as tie

returns : tie.Need-returns
returns c =
    let after-rules = c.before.before in
    let (short, _, _, told, cells) = after-rules.before.before.before.requires in
    built _ _ _ _ _ _ short told cells after-rules.rule_count-rules.ensures c.tabulate.ensures

pub build_spec : {M : Type 1} → statement M
build_spec = tie.close (tie.spec (λ c κs. omega arith) (λ c κs. omega arith) returns)
