-- `packed::is_range` meets its contract: the byte read is the tag. Assumes nothing.
use native.Mathlib.Omega.{arith}
use borrow.Author.Rules.{rules}
use Rattle.packed.specs.Packed.{is_range_in, tag_in}
use Rattle.packed.proofs.is_range.Statement.{statement}
use Rattle.packed.proofs.is_range.Tie as tie

returns : tie.Need-returns
unfolding is_range_in tag_in
returns c = search rules

pub is_range_spec : {M : Type 1} → statement M
is_range_spec = tie.close (tie.spec
    (λ c. omega arith) (λ c. omega arith) (λ c. omega arith) (λ c. omega arith) (λ c. omega arith) returns)
