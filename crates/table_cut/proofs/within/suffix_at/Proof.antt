-- `table_cut::within::suffix_at` meets its contract. Assumes nothing.
use borrow.Author.Rules.{rules}
use Rattle.table_cut.proofs.Inner.{suffix-nonterminal, suffix-terminal}
use Rattle.table_cut.proofs.within.suffix_at.Statement.{statement}
use Rattle.table_cut.proofs.within.suffix_at.Tie as tie

pub suffix_at_spec : {M : Type 1} → statement M
suffix_at_spec = tie.close (tie.spec
    (λ c κs. search rules) (λ c κs. search rules) (λ c κs. search rules) (λ c. search (rules, suffix-nonterminal)) (λ c κs. search rules)
    (λ c. search (rules, suffix-terminal)))
