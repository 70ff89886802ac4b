-- `load_commands::opcode::operand_count` meets its contract: each opcode by its byte. Assumes nothing.
use Rattle.std.proofs.Common.{rules}
use Rattle.results.specs.Load.{operands}
use Rattle.load_commands.proofs.opcode.operand_count.Goals as goal

pub returns-in-Start : goal.returns-in-Start
unfolding operands
returns-in-Start c = search rules

pub returns-in-Rule : goal.returns-in-Rule
unfolding operands
returns-in-Rule c = search rules

pub returns-in-RuleWithYears : goal.returns-in-RuleWithYears
unfolding operands
returns-in-RuleWithYears c = search rules

pub returns-in-Range : goal.returns-in-Range
unfolding operands
returns-in-Range c = search rules

pub returns-in-Name : goal.returns-in-Name
unfolding operands
returns-in-Name c = search rules

pub returns-in-End : goal.returns-in-End
unfolding operands
returns-in-End c = search rules
