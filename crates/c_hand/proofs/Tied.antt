-- Each constant of src/ is its twin in specs/: contracts name the one, and code the other. Assumes nothing.
use Rattle.std.proofs.Common.{◌≡◌, refl}
use Rattle.c_hand.specs.declared.TheConstants.{HAND}
use Rattle.c_hand.specs.Hand.{hand_size}

pub tied-size : HAND ≡ hand_size
tied-size = refl
