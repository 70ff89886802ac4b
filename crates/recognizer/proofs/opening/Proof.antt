-- `recognizer::opening` meets its contract. Assumes nothing.
use borrow.Author.Rules.{rules}
use native.Mathlib.Omega.{arith}
use Rattle.recognizer.proofs.Calls.{open-right}
use Rattle.recognizer.proofs.opening.Statement.{statement}
use Rattle.recognizer.proofs.opening.Tie as tie

returns : tie.Need-returns
returns c =
    open-right _ _ _ _ _ c.blank.ensures _ _ c.requires.0 c.requires.1 c.pack-p.ensures c.open_chart.ensures c.says-accepted.ensures

pub opening_spec : {M : Type 1} → statement M
opening_spec = tie.close (tie.spec
    (λ c κs. search rules) (λ c κs. omega arith) (λ c κs. omega arith) (λ c κs. omega arith) (λ c. omega arith) returns)
