-- A byte that is none of the eight is unknown. Assumes nothing.
use Rattle.results.proofs.Loading.Commands.{unknown-other}
use Rattle.load_commands.proofs.opcode.OpcodeTryFromU8.try_from.Goals as goal

pub returns-in_default : goal.returns-in_default
returns-in_default c = search unknown-other
