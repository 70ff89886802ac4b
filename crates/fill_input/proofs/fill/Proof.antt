-- `fill_input::fill` meets its contract: the packed grammar has the rules of the grammar, so its charts are the same. Assumes nothing.
use borrow.Author.Rules.{rules}
use native.Mathlib.Omega.{arith}
use Rattle.fill_input.proofs.Packing.{filled-told}
use Rattle.fill_input.proofs.fill.Statement.{statement}
use Rattle.fill_input.proofs.fill.Tie as tie

pub fill_spec : {M : Type 1} → statement M
fill_spec = tie.close (tie.spec
    (λ c κs. search rules) (λ c κs. omega arith) (λ c κs. omega arith) (λ c. omega arith) (λ c. (search filled-told, search rules)))
