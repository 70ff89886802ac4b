-- `lookup::name` meets its contract: the part is within the bytes. Assumes nothing.
use borrow.Author.Rules.{rules}
use Rattle.lookup.proofs.Parts.{end-within, end_fits, part_bytes}
use Rattle.lookup.proofs.name.Statement.{statement}
use Rattle.lookup.proofs.name.Tie as tie

pub name_spec : {M : Type 1} → statement M
name_spec = tie.close (tie.spec
    (λ c κs. search rules) (λ c. search end_fits) (λ c. search rules) (λ c. search rules) (λ c. search end-within) (λ c. search part_bytes))
