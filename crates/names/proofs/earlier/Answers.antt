-- The loop of `names::earlier`: a word that is passed is found exactly if it is the one that is looked for. Assumes nothing.
use Rattle.std.proofs.Common.{refl, ◌∙◌}
use Rattle.names.specs.Word.{has_word}
use Rattle.names.proofs.Compared.{word-found, word-not}
use Rattle.names.proofs.earlier.Goals as goal
use Rattle.names.proofs.earlier.Goals.{then-word-w, else-word-w}

pub loop-word-init : goal.loop-word-init
unfolding has_word
loop-word-init c = refl

pub loop-word-preserved : goal.loop-word-preserved
loop-word-preserved c =
    elim c.if-word-w.branch [
      | then-word-w t ↦ t.found-is ∙ word-found _ _ _ _ c.loop-word.invariant c.loop-word-test.true t.if-word-w.true
      | else-word-w t ↦ t.found-is ∙ word-not _ _ _ _ c.loop-word.invariant c.loop-word-test.true t.if-word-w.false
    ]
