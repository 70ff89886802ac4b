-- The loop of `names::earlier`: `found` says whether the word is among those that were passed. Assumes nothing.
use Rattle.std.proofs.Common.{◌≡◌, take}
use Rattle.names.specs.Word.{has_word}
use Rattle.names.proofs.earlier.Given as goal

abbrev pub invariant-loop-word : goal.invariant-loop-word
invariant-loop-word l = l.found ≡ has_word l.w (take l.word-index l.word-items)
