-- The lines of the pages are all lines that are ahead after the first step: those of book, file with the year and plate. Assumes nothing.
use Rattle.print_write.proofs.Going.{listed}
use Rattle.list.proofs.list.Goals as goal

pub returns : goal.returns
returns g c = listed _ _ _ _ _ _ _ _ _ _ _ c.write_pages.ensures c.begin-due.ensures.ahead
