-- `sets::without` meets its contract: the member's power of two is subtracted. Assumes nothing.
use mathlib.Core.Path.{ap}
use native.Mathlib.Omega.{arith}
use Prim.Native.Nat.{◌-◌}
use Rattle.sets.proofs.Machine.{shift_one}
use Rattle.sets.proofs.Pairs.{taken-away, without_is}
use Rattle.sets.proofs.without.Statement.{statement}
use Rattle.sets.proofs.without.Tie as tie

returns : tie.Need-returns
returns c = without_is c.args.k c.args.w _ c.requires.1 (ap (λ x. c.args.w - x) (shift_one 32 c.args.k c.requires.0))

pub without_spec : {M : Type 1} → statement M
without_spec = tie.close (tie.spec
    (λ c. omega arith) (λ c. omega arith)
    (λ c. omega (arith, shift_one 32 c.args.k c.requires.0, (taken-away c.args.k c.args.w c.requires.1).0)) returns)
