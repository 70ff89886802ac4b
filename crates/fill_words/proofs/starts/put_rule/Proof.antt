-- `fill_words::starts::put_rule` meets its contract. Assumes nothing.
use borrow.Author.Rules.{rules}
use native.Mathlib.Omega.{arith}
use Rattle.fill_words.proofs.Adding.{places-none}
use Rattle.fill_words.proofs.starts.put_rule.Statement.{statement}
use Rattle.fill_words.proofs.starts.put_rule.Tie as tie

pub put_rule_spec : {M : Type 1} → statement M
put_rule_spec = tie.close (tie.spec (λ c κs. omega arith) (λ c. search rules) (λ c. search places-none))
