-- What is left of the proof that `write_pages` meets its contract. Assumes nothing.
use Rattle.std.proofs.Common.{◌≡◌, false, length, sym, rules, arith}
use Rattle.print_page.specs.Page.{page_size, is_done}
use Rattle.print_write.proofs.Going.{part_small, going-first, going_next, going-page}
use Rattle.print_write.proofs.write_pages.Goals as goal

pub loop-init : goal.loop-init
loop-init g c = (search going-first, search rules)

-- the next page
pub fill_page-t-requires : goal.fill_page-t-requires
fill_page-t-requires g c = (search rules, search rules, search rules, omega (arith, c.loop.invariant.0.long, c.requires.3), search rules)

pub write-requires : goal.write-requires
write-requires g c =
    let some : is_done c.loop.then ≡ false = sym c.if-is_done.ensures in
    (omega (arith, c.loop.invariant.0.small), search part_small, search going_next)

-- the loop goes on
pub loop-preserved : goal.loop-preserved
loop-preserved g c =
    let some : is_done c.loop.then ≡ false = sym c.if-is_done.ensures in
    let size : length c.fill_page-t.new.out ≡ page_size = search rules in
    (going-page _ _ _ _ _ _ _ _ _ _ _ c.loop.invariant.0 some _ _ _ _ _ c.fill_page-t.ensures size _ c.in_ok-bytes.ensures.written, size)
