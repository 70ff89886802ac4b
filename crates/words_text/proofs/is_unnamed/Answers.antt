-- `words_text::is_unnamed` meets its contract: all bytes of the name are zeros. Assumes nothing.
use Rattle.std.proofs.Common.{◌∙◌}
use Rattle.words_text.proofs.Names.{unnamed-all}
use Rattle.words_text.proofs.is_unnamed.Goals as goal

pub returns : goal.returns
returns c = c.all_zeros.ensures ∙ unnamed-all c.args.names.now c.args.r
