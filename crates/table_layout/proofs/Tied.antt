-- Each constant of src/ is its twin in specs/: contracts name the one, and code the other. Assumes nothing.
use Rattle.std.proofs.Common.{◌≡◌, refl}
use Rattle.table_layout.specs.declared.layout.TheConstants.{LEAST_SIZE, ALONES, BARES, TABLES_SIZE, ROWS_SIZE}
use Rattle.table_layout.specs.declared.least.TheConstants.{TOO_MANY}
use Rattle.table_layout.specs.Layout.{least_size, alones_at, bares_at, tables_size, rows_size}
use Rattle.sizes.specs.Sizes.{too_many}

pub tied-least : LEAST_SIZE ≡ least_size
tied-least = refl

pub tied-alones : ALONES ≡ alones_at
tied-alones = refl

pub tied-bares : BARES ≡ bares_at
tied-bares = refl

pub tied-tables : TABLES_SIZE ≡ tables_size
tied-tables = refl

pub tied-rows : ROWS_SIZE ≡ rows_size
tied-rows = refl

pub tied-too-many : TOO_MANY ≡ too_many
tied-too-many = refl
