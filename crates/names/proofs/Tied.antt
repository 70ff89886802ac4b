-- Each constant of src/ is its twin in specs/: contracts name the one, and code the other. Assumes nothing.
use Rattle.std.proofs.Common.{◌≡◌, refl}
use Rattle.names.specs.declared.TheConstants.{NAME}
use Rattle.theory_words.specs.Name.{name_size}

pub tied-name : NAME ≡ name_size
tied-name = refl
