-- `words_text::put_rule` meets its contract: by whether the rule has a name. Assumes nothing.
use native.Mathlib.Omega.{arith}
use borrow.Author.Rules.{rules}
use Rattle.words_text.proofs.Names.{room-number, rule-number, room-name, rule-name}
use Rattle.words_text.proofs.put_rule.Statement.{statement}
use Rattle.words_text.proofs.put_rule.Tie as tie

pub put_rule_spec : {M : Type 1} → statement M
put_rule_spec = tie.close (tie.spec
    -- the number of a rule without a name
    (λ c κs. omega arith) (λ c κs. (omega arith, search room-number))
    -- its name
    (λ c. omega arith) (λ c κs. omega arith) (λ c. omega arith) (λ c. omega arith) (λ c. omega arith) (λ c. omega arith)
    (λ c κs. search (room-name, rules))
    -- the returns
    (λ c. omega arith) (λ c. search rule-number) (λ c. omega arith) (λ c. search (rule-name, rules)))
