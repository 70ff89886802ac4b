-- Each constant of src/ is its twin in specs/: contracts name the one, and code the other. Assumes nothing.
use Rattle.std.proofs.Common.{◌≡◌, refl}
use Rattle.print_line.specs.declared.TheConstants.{LINE}
use Rattle.print_line.specs.Sizes.{line_size}

pub tied-line : LINE ≡ line_size
tied-line = refl
