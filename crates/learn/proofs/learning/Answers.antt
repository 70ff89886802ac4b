-- `learn::learning` meets its contract: by what reading the rule gave. Assumes nothing.
use Rattle.std.proofs.Common.{ap}
use Rattle.recognizer.specs.Recognizer.{state_in}
use Rattle.learn.proofs.Calls.{learns-longer, learns-faulty}
use Rattle.learn.proofs.learning.Goals as goal

pub returns-in-Ok : goal.returns-in-Ok
returns-in-Ok c =
    learns-longer c.args.g (state_in c.args.h) _ _ c.requires.0 c.requires.1 c.requires.2 _ _
    c.enlarge-read.ensures.0 c.in-Ok.is _ c.filling.ensures

pub returns-in-Err : goal.returns-in-Err
returns-in-Err c =
    let left = c.refused.ensures in
    learns-faulty c.args.g (state_in c.args.h) _ _ c.requires.0 c.requires.1 c.requires.2 _ _
    c.enlarge-read.ensures.0 _ c.in-Err.is _ _ _ _ left.0 left.1 left.2 (ap state_in left.3)
