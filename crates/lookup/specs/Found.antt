-- What the lookup finds: where a name begins, and the part that it has. Assumes nothing.
use Rattle.std.specs.Prelude.{ℕ, Option, Some, None}
use Rattle.std.proofs.Math.Option.{none, some}
use Rattle.std.proofs.Math.Option as Logic
use Rattle.results.specs.Name as Meant
use Rattle.lookup.specs.declared.Part.{Part}

-- the offset that was found
abbrev pub found_of : Option ℕ → Logic.Option ℕ
found_of (Some at) = some at
found_of None = none

-- the part that a struct means
abbrev pub part_of : Part → Meant.Part
part_of p = record { offset = p.offset; length = p.length }
