-- `fill_sets::union` meets its contract. Assumes nothing.
use borrow.Author.Rules.{rules}
use Rattle.fill_sets.proofs.Making.{joined}
use Rattle.fill_sets.proofs.union.Statement.{statement}
use Rattle.fill_sets.proofs.union.Tie as tie

pub union_spec : {M : Type 1} → statement M
union_spec = tie.close (tie.spec (λ c κs. search rules) (λ c κs. search rules) (λ c. search joined))
