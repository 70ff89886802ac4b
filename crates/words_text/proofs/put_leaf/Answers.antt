-- `words_text::put_leaf` meets its contract. Assumes nothing.
use Rattle.std.proofs.Common.{rules}
use Rattle.words_text.proofs.Digits.{leaf-put}
use Rattle.words_text.proofs.put_leaf.Goals as goal

pub returns : goal.returns
returns c = search (rules, leaf-put)
