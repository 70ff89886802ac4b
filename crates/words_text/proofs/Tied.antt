-- Each constant of src/ is its twin in specs/: contracts name the one, and code the other. Assumes nothing.
use Rattle.std.proofs.Common.{◌≡◌, refl}
use Rattle.words_text.specs.declared.TheConstants.{NAMES_SIZE}
use Rattle.words_text.specs.Names.{names_size}

pub tied-size : NAMES_SIZE ≡ names_size
tied-size = refl
