-- `learn::filling` meets its contract: the chart is filled for the bytes of the state. Assumes nothing.
use Rattle.recognizer.proofs.Declared.{bytes-long}
use Rattle.recognizer.specs.Recognizer.{state_in}
use Rattle.learn.proofs.Calls.{filled-right}
use Rattle.learn.proofs.filling.Goals as goal

pub returns : goal.returns
returns c =
    filled-right (state_in c.args.h) _ (bytes-long c.args.h _ c.well_formed.0) c.requires.1 c.front-bytes.ensures _ _ _ _
    c.fill.ensures.0 c.says.ensures
