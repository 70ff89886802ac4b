-- `words_text::length_at` meets its contract: a name is as long as the place of its first blank, or it has none. Assumes nothing.
use Rattle.words_text.proofs.Names.{length-here}
use Rattle.words_text.proofs.length_at.Goals as goal

pub returns : goal.returns
returns c = rw c.unwrap_or.ensures (length-here _ _ c.requires _ c.first_blank.ensures)
