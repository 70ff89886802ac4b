-- `load_nullable::with_head` meets its contract. Assumes nothing.
use native.Mathlib.Omega.{arith}
use borrow.Author.Rules.{rules}
use Rattle.load_nullable.proofs.Pass.{rule-left-bound, head-with, head-out}
use Rattle.load_nullable.proofs.with_head.Statement.{statement}
use Rattle.load_nullable.proofs.with_head.Tie as tie

pub with_head_spec : {M : Type 1} → statement M
with_head_spec = tie.close (tie.spec
    (λ c κs. search rules) (λ c. omega arith) (λ c κs. search rule-left-bound) (λ c. search head-with) (λ c. search head-out))
