-- `fill_sets::list::relist` meets its contract. Assumes nothing.
use borrow.Author.Rules.{rules}
use Rattle.fill_sets.proofs.Listing.{list-none, relist-same, relist-all}
use Rattle.fill_sets.proofs.list.relist.Statement.{statement}
use Rattle.fill_sets.proofs.list.relist.Tie as tie

list-too-requires : tie.Need-list_too-requires
list-too-requires c κs = search list-none

returns : tie.Need-returns-then-same
returns c = search relist-same

returns-2 : tie.Need-returns-else-same
returns-2 c = search relist-all

pub relist_spec : {M : Type 1} → statement M
relist_spec = tie.close (tie.spec (λ c κs. search rules) (λ c κs. search rules) list-too-requires returns returns-2)
