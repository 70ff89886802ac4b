-- What is known of a state of the recognizer because its type is declared: how long its arrays are. An obligation has this as a path into
-- the record's fields (`c.good.0`), and here the path gets a name. Assumes nothing.
use mathlib.Core.List.{List}
use mathlib.Core.Path.{◌≡◌}
use lib.ListN.{length}
use mir.Val.{Val}
use denote.Laws.{Is}
use Rattle.sizes.specs.Sizes.{max_input, max_points}
use Rattle.recognizer.specs.declared.Recognizer as Declared
use Rattle.recognizer.specs.contracts.Recognizer as R

pub bytes-long : (h : Declared.Recognizer) (vs : List Val) → Is R.the_row h vs → length h.bytes ≡ max_input
bytes-long h vs known = known.1.1.0.1.0.1

pub points-long : (h : Declared.Recognizer) (vs : List Val) → Is R.the_row h vs → length h.points ≡ max_points
points-long h vs known = known.1.1.1.1.1.0.1.0.1
