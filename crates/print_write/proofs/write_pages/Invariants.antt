-- The loop's invariant: the pages handed to the write so far are the front of the text. Assumes nothing.
use Rattle.std.proofs.Common.{◌≡◌, length}
use Rattle.check_length.specs.Measure.{lengths_in}
use Rattle.print_page.specs.Page.{page_size}
use Rattle.print_write.proofs.Going.{Going}
use Rattle.print_write.proofs.write_pages.Given as goal

abbrev pub invariant-loop : goal.invariant-loop
invariant-loop g l =
    Going (lengths_in l.lengths) l.p l.fits l.chart l.tables l.initial.then l.initial.buf l.then l.buf l.bytes l.counter
    × (length l.out ≡ page_size)
