-- Each constant of src/ is its twin in specs/: contracts name the one, and code the other. Assumes nothing.
use Rattle.std.proofs.Common.{◌≡◌, refl}
use Rattle.c_grammar.specs.declared.TheConstants.{FLAT_SIZE}
use Rattle.c_grammar.specs.Flat.{flat_size}

pub tied-size : FLAT_SIZE ≡ flat_size
tied-size = refl
