-- The rule of the parts that were read. Assumes nothing.
use Rattle.c_grammar.proofs.Parts.{read-rule-of}
use Rattle.c_grammar.proofs.read.read_rule.Goals as goal

pub returns : goal.returns
returns c = search read-rule-of
