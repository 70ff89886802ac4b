-- `words_write::open_node` meets its contract. Assumes nothing.
use native.Mathlib.Omega.{arith}
use Rattle.words_write.proofs.Pieces.{open-put}
use Rattle.words_write.proofs.open_node.Statement.{statement}
use Rattle.words_write.proofs.open_node.Tie as tie

pub open_node_spec : {M : Type 1} → statement M
open_node_spec = tie.close (tie.spec
    (λ c κs. omega arith) (λ c κs. omega arith) (λ c. omega arith) (λ c. omega arith)
    (λ c. record { put = search open-put; nodes = omega arith; bytes = omega arith }))
