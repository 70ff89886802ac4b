-- `tree_size::child` meets its contract. Assumes nothing.
use native.Mathlib.Omega.{arith}
use borrow.Author.Rules.{rules}
use Rattle.tree_size.proofs.Counts.{child-nonterminal, child-terminal}
use Rattle.tree_size.proofs.child.Statement.{statement}
use Rattle.tree_size.proofs.child.Tie as tie

pub child_spec : {M : Type 1} → statement M
child_spec = tie.close (tie.spec
    (λ c κs. omega arith) (λ c. (search (rules, child-nonterminal), omega arith)) (λ c. (search (rules, child-terminal), omega arith)))
