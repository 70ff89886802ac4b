-- The command of each opcode, by its law. Assumes nothing.
use Rattle.load_commands.proofs.Steps.{start-passed, rule-passed, years-passed, nonterminal-passed, terminal-passed}
use Rattle.load_commands.proofs.Steps.{range-passed, name-room, name-passed, end-passed}
use Rattle.load_commands.proofs.scan.limits_at.Goals as goal

pub name_at-name-requires : goal.name_at-name-requires
name_at-name-requires c = search name-room

pub returns-in-Start : goal.returns-in-Start
returns-in-Start c = search start-passed

pub returns-in-Rule : goal.returns-in-Rule
returns-in-Rule c = search rule-passed

pub returns-in-RuleWithYears : goal.returns-in-RuleWithYears
returns-in-RuleWithYears c = search years-passed

pub returns-in-Nonterminal : goal.returns-in-Nonterminal
returns-in-Nonterminal c = search nonterminal-passed

pub returns-in-Terminal : goal.returns-in-Terminal
returns-in-Terminal c = search terminal-passed

pub returns-in-Range : goal.returns-in-Range
returns-in-Range c = search range-passed

pub returns-in-Name : goal.returns-in-Name
returns-in-Name c = search name-passed

pub returns-in-End : goal.returns-in-End
returns-in-End c = search end-passed
