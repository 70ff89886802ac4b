-- Too few operands, a nonterminal that is too large, and the limits, each by its law. Assumes nothing.
use Rattle.load_commands.proofs.Steps.{operands_short, operands-large, operands-read}
use Rattle.load_commands.proofs.scan.operands_at.Goals as goal

pub returns-then-left-n : goal.returns-then-left-n
returns-then-left-n c = search operands_short

pub returns-then-large : goal.returns-then-large
returns-then-large c = search operands-large

pub returns : goal.returns
returns c = search operands-read
