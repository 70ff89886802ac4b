-- `c_grammar::symbol::symbol` meets its contract, one case for each return. Assumes nothing.
use native.Mathlib.Omega.{arith}
use Rattle.c_grammar.proofs.Parts.{symbol-nonterminal, symbol-terminal, symbol-large, symbol-range, symbol-other}
use Rattle.c_grammar.proofs.symbol.symbol.Statement.{statement}
use Rattle.c_grammar.proofs.symbol.symbol.Tie as tie

pub symbol_spec : {M : Type 1} → statement M
symbol_spec = tie.close (tie.spec
    (λ c κs. omega arith) (λ c κs. omega arith) (λ c κs. omega arith) (λ c. search symbol-nonterminal) (λ c. search symbol-terminal)
    (λ c. search symbol-large) (λ c. search symbol-range) (λ c. search symbol-other))
