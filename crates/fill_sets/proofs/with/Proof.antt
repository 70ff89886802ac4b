-- `fill_sets::with` meets its contract. Assumes nothing.
use borrow.Author.Rules.{rules}
use Rattle.fill_sets.proofs.Making.{added-low, added-high}
use Rattle.fill_sets.proofs.with.Statement.{statement}
use Rattle.fill_sets.proofs.with.Tie as tie

pub with_spec : {M : Type 1} → statement M
with_spec = tie.close (tie.spec (λ c κs. search rules) (λ c κs. search rules) (λ c. search added-low) (λ c. search added-high))
