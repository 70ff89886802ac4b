-- `recognizer::state::with_byte` meets its contract. Assumes nothing.
use native.Mathlib.Omega.{arith}
use mathlib.Core.Path.{refl}
use Rattle.recognizer.proofs.Declared.{bytes-long}
use Rattle.recognizer.proofs.Copied.{byte-state}
use Rattle.recognizer.proofs.state.with_byte.Statement.{statement}
use Rattle.recognizer.proofs.state.with_byte.Tie as tie

returns : tie.Need-returns
returns c =
    let entry = c.before.before in
    (byte-state _ (bytes-long entry.args.h _ entry.well_formed.0) _ _ _ _ _ entry.requires c.before.front-bytes.ensures, refl)

pub with_byte_spec : {M : Type 1} → statement M
with_byte_spec = tie.close (tie.spec (λ c κs. omega arith) (λ c. omega arith) (λ c. omega arith) returns)
