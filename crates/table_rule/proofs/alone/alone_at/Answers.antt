-- `table_rule::alone::alone_at` meets its contract: the place's own cost is part of the sum, and what the returns have to show.
-- Assumes nothing.
use Rattle.std.proofs.Common.{rules}
use Rattle.table_rule.proofs.Sums.{own-within, alone-nonterminal, alone-terminal, alone-past}
use Rattle.table_rule.proofs.alone.alone_at.Goals as goal

pub overflow_sub-sum : goal.overflow_sub-sum
overflow_sub-sum c = search (rules, own-within)

pub returns-then-is_nonterminal : goal.returns-then-is_nonterminal
returns-then-is_nonterminal c = search (rules, alone-nonterminal)

pub returns-else-is_nonterminal : goal.returns-else-is_nonterminal
returns-else-is_nonterminal c = search (rules, alone-terminal)

pub returns-else-q-count : goal.returns-else-q-count
returns-else-q-count c = search (rules, alone-past)
