-- `tree_choose::ends::piece` meets its contract. Assumes nothing.
use native.Mathlib.Omega.{arith}
use borrow.Author.Rules.{rules}
use Rattle.tree_choose.proofs.Chosen.{piece-later, piece-short, piece-whole}
use Rattle.tree_choose.proofs.ends.piece.Statement.{statement}
use Rattle.tree_choose.proofs.ends.piece.Tie as tie

pub piece_spec : {M : Type 1} → statement M
piece_spec = tie.close (tie.spec
    (λ c κs. omega arith) (λ c. search (rules, piece-later)) (λ c κs. omega arith) (λ c. search (rules, piece-short))
    (λ c κs. omega arith) (λ c. search (rules, piece-whole)))
