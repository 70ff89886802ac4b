-- `c_grammar::write::write_rule` meets its contract. Assumes nothing.
use native.Mathlib.Omega.{arith}
use borrow.Author.Rules.{rules}
use Rattle.grammar.proofs.Declared.{length-fits}
use Rattle.c_grammar.proofs.Written.{rule-done}
use Rattle.c_grammar.proofs.write.write_rule.Statement.{statement}
use Rattle.c_grammar.proofs.write.write_rule.Tie as tie

returns : tie.Need-returns
returns c =
    let entry = c.before.before.before.before.before.before.before.before in
    let fits = length-fits entry.args.rule _ entry.well_formed.0 in
    (search rule-done, c.write_rest.ensures.1)

pub write_rule_spec : {M : Type 1} → statement M
write_rule_spec = tie.close (tie.spec
    -- the left side, the length and the count are stored
    (λ c. omega arith) (λ c. omega arith) (λ c. omega arith) (λ c κs. omega arith) (λ c. omega arith) (λ c. omega arith) (λ c. omega arith)
    (λ c κs. omega arith) (λ c. omega arith) (λ c. omega arith) (λ c. omega arith)
    -- `write_places` and `write_rest` after them
    (λ c. omega arith) (λ c κs. search rules) (λ c. omega arith) (λ c κs. search rules) returns)
