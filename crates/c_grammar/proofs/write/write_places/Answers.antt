-- The loop writes each place in turn. Assumes nothing.
use Rattle.grammar.proofs.Declared.{places-long}
use Rattle.c_grammar.proofs.Written.{written_start, written_step}
use Rattle.c_grammar.proofs.write.write_places.Goals as goal

pub loop-q-init : goal.loop-q-init
loop-q-init c = written_start _ _ _ _ _ _ (places-long c.args.rule _ c.well_formed.0) c.requires.1

pub loop-q-preserved : goal.loop-q-preserved
loop-q-preserved c = search written_step
