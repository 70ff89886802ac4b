-- Each constant of src/ is its twin in specs/: contracts name the one, and code the other. Assumes nothing.
use Rattle.std.proofs.Common.{◌≡◌, refl}
use Rattle.packed.specs.declared.TheConstants.{PACKED_SIZE}
use Rattle.packed.specs.Packed.{packed_size}

pub tied-size : PACKED_SIZE ≡ packed_size
tied-size = refl
