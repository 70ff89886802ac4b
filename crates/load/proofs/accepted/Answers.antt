-- `load::accepted` hands back the grammar with its nullable depth. Assumes nothing.
use Rattle.load.proofs.Answer.{accepts}
use Rattle.load.proofs.accepted.Goals as goal

pub returns : goal.returns
returns c = search accepts
