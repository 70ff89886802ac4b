-- A word of 32 bits has no member from 32 on. Assumes nothing.
use Rattle.std.proofs.Common.{arith}
use Rattle.sets.proofs.Laws.{has-high}
use Rattle.packed.proofs.contains.Goals as goal

pub returns-else-k-lt-NONTERMINALS : goal.returns-else-k-lt-NONTERMINALS
returns-else-k-lt-NONTERMINALS c = search (has-high, arith)
