-- `print_number::put_signed` meets its contract, by the sign. Assumes nothing.
use native.Mathlib.Omega.{arith}
use mir.Syntax.{w64}
use Rattle.numbers.proofs.Signs.{negated-casts, natural_casts}
use Rattle.print_number.proofs.Signed.{minus-fits, room-negated, written-negative, negative-end}
use Rattle.print_number.proofs.Signed.{room-natural, written-natural, natural-end}
use Rattle.print_number.proofs.put_signed.Statement.{statement}
use Rattle.print_number.proofs.put_signed.Tie as tie

cast-put-decimal : tie.Need-overflow_cast-z
cast-put-decimal c =
    let at_test = c.before.before.before.before in
    let entry = at_test.before.before in
    negated-casts entry.args.z (omega (arith, entry.requires.0)) at_test.if-z-lt0.true w64 tt

pub put_signed_spec : {M : Type 1} → statement M
put_signed_spec = tie.close (tie.spec
    (λ c κs. omega arith) (λ c. search minus-fits) cast-put-decimal (λ c κs. search room-negated)
    (λ c. natural_casts c.before.before.args.z (omega arith) c.if-z-lt0.false w64 tt) (λ c κs. search room-natural)
    (λ c. omega arith) (λ c. (search written-negative, search negative-end)) (λ c. omega arith)
    (λ c. (search written-natural, search natural-end)))
