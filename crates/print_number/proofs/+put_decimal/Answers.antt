-- `print_number::put_decimal`, which calls itself, meets its contract. Assumes nothing.
use native.Mathlib.Omega.{arith}
use lib.ListN.{length}
use Rattle.print_number.proofs.Decimal.{room-one, room-more, room-last, written_one, written-more}
use Rattle.print_number.proofs.+put_decimal.Goals as goal

pub put_byte-requires : goal.put_byte-requires
put_byte-requires t c = room-one c.args.n c.args.at _ c.if-n-lt10.true c.requires

pub put_decimal-end-requires : goal.put_decimal-end-requires
put_decimal-end-requires t c = (omega arith, room-more c.args.n c.args.at _ c.if-n-lt10.false c.requires)

pub put_byte-requires-else-n-lt10 : goal.put_byte-requires-else-n-lt10
put_byte-requires-else-n-lt10 t c =
    room-last c.args.n c.args.at _ (length c.args.out.now) _ c.if-n-lt10.false c.requires c.put_decimal-end.ensures.grown
    c.put_decimal-end.ensures.long

pub returns-then-n-lt10 : goal.returns-then-n-lt10
returns-then-n-lt10 t c = search written_one

pub returns-else-n-lt10 : goal.returns-else-n-lt10
returns-else-n-lt10 t c = search written-more
