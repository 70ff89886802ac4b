-- `look`: one case for each way out. Assumes nothing.
use Rattle.std.proofs.Common.{rules}
use Rattle.tree_choose.proofs.Looking.{look-end, look-byte, look-short, look-node, look_none}
use Rattle.tree_choose.proofs.look.look.Goals as goal

pub returns-then-count-q : goal.returns-then-count-q
returns-then-count-q c = search (rules, look-end)

pub returns-in_default : goal.returns-in_default
returns-in_default c = search (rules, look_none)

pub returns-then-is_nonterminal : goal.returns-then-is_nonterminal
returns-then-is_nonterminal c = search (rules, look-node)

pub returns-then-a-j : goal.returns-then-a-j
returns-then-a-j c = search (rules, look-byte)

pub returns-else-a-j : goal.returns-else-a-j
returns-else-a-j c = search (rules, look-short)
