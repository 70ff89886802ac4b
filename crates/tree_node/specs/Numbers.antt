-- The list in which the two numbers of a node are written. Assumes nothing.
use Rattle.std.specs.Prelude.{ℕ, ◌+◌, ◌*◌, List, ◌≢◌, ◌≡◌, length, get_or}

-- the two numbers of node `at` say that it covers c bytes and has rule r; all others are unchanged
pub record NodePut (c r at : ℕ) (out₀ out : List ℕ) : Type 0 where
  pub long : length out ≡ length out₀
  pub cover : get_or out (2 * at) 0 ≡ c
  pub rule : get_or out (2 * at + 1) 0 ≡ r
  pub other : (x : ℕ) → x ≢ 2 * at → x ≢ 2 * at + 1 → get_or out x 0 ≡ get_or out₀ x 0
