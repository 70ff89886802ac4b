-- `load::refused` hands back the grammar of zeros. Assumes nothing.
use Rattle.load.proofs.Answer.{refuses}
use Rattle.load.proofs.refused.Goals as goal

pub returns : goal.returns
returns c = search refuses
