-- `next::next_filled` meets its contract: 12 if the offered row is no derivation, else the derivation after it. Assumes nothing.
use Rattle.next.proofs.Calls.{next-other, next-listed}
use Rattle.next.proofs.next_filled.Goals as goal

pub returns-then-is_derivation : goal.returns-then-is_derivation
returns-then-is_derivation c = search next-listed

pub returns-else-is_derivation : goal.returns-else-is_derivation
returns-else-is_derivation c = search next-other
