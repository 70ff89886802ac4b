-- `recognizer::taking` meets its contract. Assumes nothing.
use borrow.Author.Rules.{rules}
use native.Mathlib.Omega.{arith}
use Rattle.recognizer.proofs.Calls.{count_fits, count-part, take-right}
use Rattle.recognizer.specs.Recognizer.{state_in}
use Rattle.recognizer.proofs.taking.Statement.{statement}
use Rattle.recognizer.proofs.taking.Tie as tie

slice-aggregate-write-column : tie.Need-slice_bounds-write_column-end
slice-aggregate-write-column c = count-part (state_in c.with_byte-next.result) _ _ _ c.with_byte-next.ensures.0

returns : tie.Need-returns
returns c =
    take-right _ _ _ _ _ _ c.with_byte-next.ensures.0 c.with_byte-next.ensures.1 _ _ c.requires.0 c.requires.1 c.requires.2
    c.requires.3 c.pack-p.ensures c.write_column.ensures c.says.ensures

pub taking_spec : {M : Type 1} → statement M
taking_spec = tie.close (tie.spec
    (λ c κs. search rules) (λ c κs. omega arith)
    (λ c. count_fits (state_in c.with_byte-next.result) _ _ _ c.with_byte-next.ensures.0)
    slice-aggregate-write-column (λ c κs. omega arith) (λ c κs. omega arith) (λ c. omega arith) returns)
