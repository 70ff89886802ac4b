-- Each constant of src/ is its twin in specs/: contracts name the one, and code the other. Assumes nothing.
use Rattle.std.proofs.Common.{◌≡◌, refl}
use Rattle.recognizer_arrays.specs.declared.TheConstants.{POINTS}
use Rattle.sizes.specs.Sizes.{max_points}

pub tied-points : POINTS ≡ max_points
tied-points = refl
