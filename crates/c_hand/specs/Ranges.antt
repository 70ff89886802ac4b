-- What the declared type of a state says: it has 64 bytes and eight points. The count and the year may be any number. Assumes nothing.
use Rattle.std.specs.Prelude.{ℕ, ◌<◌, ◌≡◌, length, get_or}
use Rattle.sizes.specs.Sizes.{max_input, max_points}
use Rattle.results.specs.Recognize.{State}

pub record DeclaredState (s : State) : Type 0 where
  pub long : length s.bytes ≡ max_input
  pub each : (i : ℕ) → get_or s.bytes i 0 < 256
  pub eight : length s.points ≡ max_points
  pub small : (i : ℕ) → get_or s.points i 0 < 256
