-- `fill_sets::list::list_too` meets its contract. Assumes nothing.
use borrow.Author.Rules.{rules}
use native.Mathlib.Omega.{arith}
use Rattle.fill_sets.proofs.Listing.{too-same, apart_low, apart-high, too-both}
use Rattle.fill_sets.proofs.list.list_too.Statement.{statement}
use Rattle.fill_sets.proofs.list.list_too.Tie as tie

returns : tie.Need-returns-then-same
returns c = search too-same

list-word-requires : tie.Need-list_word-low-requires
list-word-requires c κs = (omega arith, search apart_low, search rules)

list-word-requires-2 : tie.Need-list_word-requires
list-word-requires-2 c κs = (omega arith, search apart-high, search rules)

returns-2 : tie.Need-returns
returns-2 c = search too-both

pub list_too_spec : {M : Type 1} → statement M
list_too_spec = tie.close (tie.spec (λ c κs. search rules) returns
    (λ c κs. search rules) list-word-requires (λ c κs. search rules) list-word-requires-2 returns-2)
