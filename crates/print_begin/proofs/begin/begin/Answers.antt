-- A refused book has its line, and a loaded one goes on with its grammar. Assumes nothing.
use Rattle.std.proofs.Common.{rules}
use Rattle.print_begin.proofs.Books.{book-refused, book-valid, book-begun}
use Rattle.print_begin.proofs.begin.begin.Goals as goal

pub returns-in-Err : goal.returns-in-Err
returns-in-Err c = search (rules, book-refused)

pub begin_input-requires : goal.begin_input-requires
begin_input-requires c = search (rules, book-valid)

pub returns-in-Ok : goal.returns-in-Ok
returns-in-Ok c = search (rules, book-begun)
