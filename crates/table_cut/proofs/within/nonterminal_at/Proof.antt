-- `table_cut::within::nonterminal_at` meets its contract. Assumes nothing.
use borrow.Author.Rules.{rules}
use Rattle.table_cut.proofs.Inner.{nonterminal-inside}
use Rattle.table_cut.proofs.within.nonterminal_at.Statement.{statement}
use Rattle.table_cut.proofs.within.nonterminal_at.Tie as tie

pub nonterminal_at_spec : {M : Type 1} → statement M
nonterminal_at_spec = tie.close (tie.spec (λ c κs. search rules) (λ c κs. search rules) (λ c. search (rules, nonterminal-inside)))
