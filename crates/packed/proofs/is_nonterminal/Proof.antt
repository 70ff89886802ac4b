-- `packed::is_nonterminal` meets its contract: the byte read is the tag. Assumes nothing.
use native.Mathlib.Omega.{arith}
use borrow.Author.Rules.{rules}
use Rattle.packed.specs.Packed.{is_nonterminal_in, tag_in}
use Rattle.packed.proofs.is_nonterminal.Statement.{statement}
use Rattle.packed.proofs.is_nonterminal.Tie as tie

pub is_nonterminal_spec : {M : Type 1} → statement M
unfolding is_nonterminal_in tag_in
is_nonterminal_spec = tie.close (tie.spec
    (λ c. omega arith) (λ c. omega arith) (λ c. omega arith) (λ c. omega arith) (λ c. omega arith) (λ c. search rules))
