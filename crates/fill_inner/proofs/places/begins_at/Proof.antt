-- `fill_inner::places::begins_at` meets its contract. Assumes nothing.
use native.Mathlib.Omega.{arith}
use mathlib.Core.Path.{sym, ◌∙◌}
use Rattle.fill_inner.proofs.places.begins_at.Statement.{statement}
use Rattle.fill_inner.proofs.places.begins_at.Tie as tie

terminal-begins-requires : tie.Need-terminal_begins-requires
terminal-begins-requires c κs =
    (omega arith, omega arith, omega arith, omega arith, omega arith, sym c.before.is_nonterminal.ensures ∙ c.if-is_nonterminal.false)

pub begins_at_spec : {M : Type 1} → statement M
begins_at_spec = tie.close (tie.spec
    (λ c κs. omega arith)
    (λ c κs. (omega arith, omega arith, omega arith, omega arith, sym c.before.is_nonterminal.ensures ∙ c.if-is_nonterminal.true))
    (λ c. c.nonterminal_begins.ensures _ _ _) terminal-begins-requires (λ c. c.terminal_begins.ensures _))
