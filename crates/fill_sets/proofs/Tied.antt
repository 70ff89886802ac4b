-- Each constant of src/ is its twin in specs/: contracts name the one, and code the other. Assumes nothing.
use Rattle.std.proofs.Common.{◌≡◌, refl}
use Rattle.fill_sets.specs.declared.TheConstants.{WORD}
use Rattle.fill_sets.specs.declared.row.TheConstants.{ROW_SIZE}
use Rattle.fill_rules.specs.Rules.{word_bits, row_size}

pub tied-word : WORD ≡ word_bits
tied-word = refl

pub tied-row : ROW_SIZE ≡ row_size
tied-row = refl
