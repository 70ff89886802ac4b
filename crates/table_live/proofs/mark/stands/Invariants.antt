-- The loop's invariant of `table_live::mark::stands`: the places from q on cost too much. Assumes nothing.
use Rattle.std.proofs.Common.{ℕ, ◌≤◌, get_or}
use Rattle.sizes.specs.Sizes.{too_many}
use Rattle.packed.specs.Packed.{place_count}
use Rattle.table_write.specs.Writes.{place_at}
use Rattle.table_live.proofs.mark.stands.Given as goal

abbrev pub invariant-loop-q : goal.invariant-loop-q
invariant-loop-q l = (s : ℕ) → l.q ≤ s → s ≤ place_count l.p l.r → too_many ≤ get_or l.rows (place_at l.r s l.i) 0
