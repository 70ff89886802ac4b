-- `fill_sets::none` meets its contract. Assumes nothing.
use Rattle.fill_rules.proofs.Laws.{no-rule}
use Rattle.fill_sets.proofs.none.Statement.{statement}
use Rattle.fill_sets.proofs.none.Tie as tie

pub none_spec : {M : Type 1} → statement M
none_spec = tie.close (tie.spec (λ c. search no-rule))
