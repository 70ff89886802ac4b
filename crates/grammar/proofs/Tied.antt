-- Each constant of src/ is its twin in specs/: contracts name the one, and code the other. Assumes nothing.
use Rattle.std.proofs.Common.{◌≡◌, refl}
use Rattle.grammar.specs.declared.building.TheConstants.{LAST_YEAR}
use Rattle.grammar.specs.Setters.{last_year}

pub tied-last-year : LAST_YEAR ≡ last_year
tied-last-year = refl
