-- `check_length::rounded` meets its contract, by the sign: the size is rounded, and the sign put back. Assumes nothing.
use native.Mathlib.Omega.{arith}
use mir.Syntax.{w32}
use borrow.Author.Rules.{rules}
use Rattle.numbers.proofs.Signs.{negated_fits, negated-casts, natural_casts}
use Rattle.check_length.proofs.Signed.{below-fits, minus-fits, round-below, above-fits, round-above}
use Rattle.check_length.proofs.rounded.Statement.{statement}
use Rattle.check_length.proofs.rounded.Tie as tie

pub rounded_spec : {M : Type 1} → statement M
rounded_spec = tie.close (tie.spec
    (λ c. negated_fits c.before.args.sum (omega arith))
    (λ c. negated-casts c.before.args.sum (omega arith) c.if-sum-lt0.true w32 tt)
    (λ c κs. search rules) (λ c. search (below-fits, rules)) (λ c. search (minus-fits, rules))
    (λ c. natural_casts c.before.args.sum (omega arith) c.if-sum-lt0.false w32 tt)
    (λ c κs. search rules) (λ c. search (above-fits, rules)) (λ c. search (round-below, rules)) (λ c. search (round-above, rules)))
