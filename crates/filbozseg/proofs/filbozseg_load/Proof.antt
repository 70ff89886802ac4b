-- `filbozseg::filbozseg_load` meets its contract. Assumes nothing.
use native.Mathlib.Omega.{arith}
use borrow.Author.Rules.{rules}
use Rattle.filbozseg.proofs.Given.{loads-of}
use Rattle.filbozseg.proofs.filbozseg_load.Statement.{statement}
use Rattle.filbozseg.proofs.filbozseg_load.Tie as tie

returns : tie.Need-returns
returns c =
    loads-of _ (λ i. omega (arith, c.shared_slice_known-1.given i)) c.load-l.result c.load-l.ensures _ _ _ _ c.write.ensures
    c.of_loading.ensures.0 c.of_loading.ensures.1

pub filbozseg_load_spec : {M : Type 1} → statement M
filbozseg_load_spec = tie.close (tie.spec (λ c κs. search rules) (λ c κs. search rules) (λ c κs. search rules) returns)
