-- `words_write::look` meets its contract. Assumes nothing.
use native.Mathlib.Omega.{arith}
use Rattle.words_write.proofs.Pieces.{look-node, look-leaf}
use Rattle.words_write.proofs.look.Statement.{statement}
use Rattle.words_write.proofs.look.Tie as tie

pub look_spec : {M : Type 1} → statement M
look_spec = tie.close (tie.spec
    (λ c κs. omega arith) (λ c. search look-node) (λ c. search look-leaf))
