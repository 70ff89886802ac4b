-- Each constant of src/ is its twin in specs/: contracts name the one, and code the other. Assumes nothing.
use Rattle.std.proofs.Common.{◌≡◌, refl}
use Rattle.fill_words.specs.declared.words.TheConstants.{ENDS_SIZE, STARTS_SIZE}
use Rattle.fill_words.specs.Spans.{ends_size, starts_size}

pub tied-ends : ENDS_SIZE ≡ ends_size
tied-ends = refl

pub tied-starts : STARTS_SIZE ≡ starts_size
tied-starts = refl
