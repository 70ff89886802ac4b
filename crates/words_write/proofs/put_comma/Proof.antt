-- `words_write::put_comma` meets its contract. Assumes nothing.
use native.Mathlib.Omega.{arith}
use Rattle.words_write.proofs.Pieces.{comma-none, comma-room, comma-put}
use Rattle.words_write.proofs.put_comma.Statement.{statement}
use Rattle.words_write.proofs.put_comma.Tie as tie

pub put_comma_spec : {M : Type 1} → statement M
put_comma_spec = tie.close (tie.spec
    -- the first place
    (λ c. record { put = search comma-none; nodes = omega arith; bytes = omega arith })
    -- a later one
    (λ c κs. search comma-room) (λ c. omega arith) (λ c. record { put = search comma-put; nodes = omega arith; bytes = omega arith }))
