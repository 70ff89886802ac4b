-- `learn::reading::deepened` gives back the grammar with its nullable depth. Assumes nothing.
use Rattle.learn.proofs.Calls.{deepens}
use Rattle.learn.proofs.reading.deepened.Goals as goal

pub returns : goal.returns
returns c = search deepens
