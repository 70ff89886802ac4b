-- `learn::reading::words_of` meets its contract: the words of the used rules are those of the tidied grammar. Assumes nothing.
use Rattle.std.proofs.Common.{arith, refl}
use Rattle.grammar.proofs.Bounds.{valid-count}
use Rattle.grammar.proofs.Declared.{rules-long}
use Rattle.learn.proofs.NameWords.{words-next, words-done}
use Rattle.learn.proofs.reading.words_of.Goals as goal

pub loop-i-init : goal.loop-i-init
loop-i-init c = (valid-count _ c.requires, refl)

pub loop-i-preserved : goal.loop-i-preserved
loop-i-preserved c =
    let inv = c.loop-i.invariant in
    (inv.0, words-next c.args.g (rules-long c.args.g _ c.well_formed.0) c.requires _ _ _ (omega arith) c.word.ensures inv.1)

pub returns : goal.returns
returns c =
    words-done c.args.g (rules-long c.args.g _ c.well_formed.0) c.requires c.loop-i.i _ (omega arith) (omega arith) c.loop-i.invariant.1
