-- `recognizer_arrays::front`: zeros stay after the bytes that are copied. Assumes nothing.
use Rattle.std.proofs.Common.{◌++◌, ap₂}
use Rattle.std.proofs.lemmas.List.{drop-replicate}
use Rattle.sizes.specs.Sizes.{max_input}
use Rattle.recognizer_arrays.proofs.front.Goals as goal

pub returns : goal.returns
returns c = ap₂ ◌++◌ c.copy_from_slice.ensures.after (drop-replicate c.args.n max_input 0)
