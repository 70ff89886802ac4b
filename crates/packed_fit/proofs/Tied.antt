-- Each constant of src/ is its twin in specs/: contracts name the one, and code the other. Assumes nothing.
use Rattle.std.proofs.Common.{◌≡◌, refl}
use Rattle.packed_fit.specs.declared.TheConstants.{FIT_SIZE}
use Rattle.packed_fit.specs.Fit.{fit_size}

pub tied-size : FIT_SIZE ≡ fit_size
tied-size = refl
