-- `learn::turn::misplaced` meets its contract: each opcode by its byte. Assumes nothing.
use Rattle.std.proofs.Common.{rules}
use Rattle.results.specs.Learn.{misplaced}
use Rattle.learn.proofs.turn.misplaced.Goals as goal

pub returns-in-Start : goal.returns-in-Start
unfolding misplaced
returns-in-Start c = search rules

pub returns-in-Rule : goal.returns-in-Rule
unfolding misplaced
returns-in-Rule c = search rules

pub returns-in-Nonterminal : goal.returns-in-Nonterminal
unfolding misplaced
returns-in-Nonterminal c = search rules
