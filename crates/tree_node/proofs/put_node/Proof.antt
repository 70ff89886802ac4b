-- `tree_node::put_node` meets its contract. Assumes nothing.
use native.Mathlib.Omega.{arith}
use borrow.Author.Rules.{rules}
use lib.ListN.{length-set}
use Rattle.tree_node.proofs.Putting.{node-put}
use Rattle.tree_node.proofs.put_node.Statement.{statement}
use Rattle.tree_node.proofs.put_node.Tie as tie

pub put_node_spec : {M : Type 1} → statement M
put_node_spec = tie.close (tie.spec
    -- out[2 * at] = c as u16
    (λ c. omega arith) (λ c. omega arith) (λ c. omega arith) (λ c. omega arith)
    -- out[2 * at + 1] = r as u16
    (λ c. omega arith) (λ c. omega arith) (λ c. omega arith) (λ c. omega arith) (λ c. simp length-set (omega arith))
    -- the end
    (λ c. search rules) (λ c. node-put _ (omega arith)))
