-- The byte of a rule that exists, but at most 8, and 0 for one that does not exist. Assumes nothing.
use Rattle.std.proofs.Common.{arith}
use Rattle.packed.proofs.Laws.{count-used, count-unused}
use Rattle.packed.proofs.count.Goals as goal

pub returns-then-left-lt-NONTERMINALS : goal.returns-then-left-lt-NONTERMINALS
returns-then-left-lt-NONTERMINALS c = (omega (arith, count-used), omega arith)

pub returns-else-left-lt-NONTERMINALS : goal.returns-else-left-lt-NONTERMINALS
returns-else-left-lt-NONTERMINALS c = (omega (arith, count-unused), omega arith)
