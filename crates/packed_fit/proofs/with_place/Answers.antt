-- A byte with one of 8 members is a byte. Assumes nothing.
use Rattle.std.proofs.Common.{rules}
use Rattle.packed_fit.proofs.Entries.{byte_small}
use Rattle.packed_fit.proofs.with_place.Goals as goal

pub overflow_cast-result : goal.overflow_cast-result
overflow_cast-result c = search (rules, byte_small)
