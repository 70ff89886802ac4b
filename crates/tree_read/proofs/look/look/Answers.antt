-- `look`: one case for each way out. Assumes nothing.
use Rattle.std.proofs.Common.{rules, arith}
use Rattle.tree_read.proofs.Reading.{look-end, look-byte, look-short, look-no-room, look-beyond, look-last, look-node, look-large}
use Rattle.tree_read.proofs.look.look.Goals as goal

pub returns-then-m-q : goal.returns-then-m-q
returns-then-m-q c = search (rules, look-end)

pub returns-then-budget-eq0 : goal.returns-then-budget-eq0
returns-then-budget-eq0 c = search (rules, look-no-room)

pub returns-then-c-j : goal.returns-then-c-j
returns-then-c-j c =
    look-beyond c.count-m.ensures.0 (omega arith) c.is_nonterminal.ensures c.if-is_nonterminal.true c.from-c.ensures (omega arith)

pub returns-then-only_terminals : goal.returns-then-only_terminals
returns-then-only_terminals c =
    look-last c.count-m.ensures.0 (omega arith) c.is_nonterminal.ensures c.if-is_nonterminal.true c.from-c.ensures
    c.value-k.ensures.0 (omega arith) c.only_terminals.ensures c.if-only_terminals.true

pub returns-then-s-budget : goal.returns-then-s-budget
returns-then-s-budget c =
    look-node c.count-m.ensures.0 (omega arith) c.is_nonterminal.ensures c.if-is_nonterminal.true c.from-c.ensures
    c.value-k.ensures.0 (omega arith) c.only_terminals.ensures c.if-only_terminals.false c.size-s.ensures (omega arith)

pub returns-then-is_nonterminal : goal.returns-then-is_nonterminal
returns-then-is_nonterminal c =
    look-large c.count-m.ensures.0 (omega arith) c.is_nonterminal.ensures c.if-is_nonterminal.true c.size-s.ensures (omega arith)

pub returns-then-a-j : goal.returns-then-a-j
returns-then-a-j c = search (rules, look-byte)

pub returns-else-a-j : goal.returns-else-a-j
returns-else-a-j c = search (rules, look-short)
