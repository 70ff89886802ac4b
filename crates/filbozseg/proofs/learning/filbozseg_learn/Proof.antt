-- `filbozseg::learning::filbozseg_learn` meets its contract. Assumes nothing.
use native.Mathlib.Omega.{arith}
use borrow.Author.Rules.{rules}
use Rattle.filbozseg.proofs.Given.{learns-of}
use Rattle.filbozseg.proofs.learning.filbozseg_learn.Statement.{statement}
use Rattle.filbozseg.proofs.learning.filbozseg_learn.Tie as tie

returns : tie.Need-returns
returns c =
    let (code, (offset, (flat, row))) = c.of_learning.ensures in
    learns-of _ _ _ _ _ _ c.read-2.ensures c.read.ensures (λ i. omega (arith, c.shared_slice_known-1.given i)) _ _ _ _ _ _ _ _ _ _
    c.learn-l.ensures code offset flat row

pub filbozseg_learn_spec : {M : Type 1} → statement M
filbozseg_learn_spec = tie.close (tie.spec
    (λ c κs. search rules) (λ c κs. search rules) (λ c κs. search rules) (λ c κs. search rules) (λ c. search rules)
    returns)
