-- `lookup::name_part` meets its contract: by what loading answers, and by where the name begins. Assumes nothing.
use Rattle.lookup.proofs.Parts.{not-loaded, not_found, found-room, found_part}
use Rattle.lookup.proofs.name_part.Goals as goal

pub returns-in_default : goal.returns-in_default
returns-in_default c = not-loaded _ _ _ c.load.ensures _ c.in_default.is

pub returns-in_default-find : goal.returns-in_default-find
returns-in_default-find c = not_found _ _ _ c.load.ensures c.in-Ok.is _ c.find.ensures c.in_default-find.is

pub length_at-requires : goal.length_at-requires
length_at-requires c = found-room _ _ _ c.load.ensures c.in-Ok.is _ c.find.ensures _ c.in-Some.is

pub returns : goal.returns
returns c = found_part _ _ _ c.load.ensures c.in-Ok.is _ c.find.ensures _ _ c.in-Some.is c.length_at.ensures
