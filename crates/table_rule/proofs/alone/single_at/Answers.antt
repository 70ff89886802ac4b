-- `table_rule::alone::single_at` meets its contract: what its two returns have to show. Assumes nothing.
use Rattle.std.proofs.Common.{rules, arith}
use Rattle.table_rule.proofs.Sums.{single-nonterminal, single-terminal}
use Rattle.table_rule.proofs.alone.single_at.Goals as goal

pub returns-then-is_nonterminal : goal.returns-then-is_nonterminal
returns-then-is_nonterminal c = (search (rules, single-nonterminal), omega arith)

pub returns : goal.returns
returns c = (search (rules, single-terminal), omega arith)
