-- Two sets: their common members, whether there are any, their union, and what one lacks of the other. One set: its least member, and the
-- set without a member. Assumes nothing.
use Rattle.std.specs.Prelude.{ℕ, ◌≤◌, ◌<◌, Bool, true, false, ◌&&◌, ◌||◌, not, ◌≡◌}
use Rattle.sets.specs.Set.{has, insert}

-- the members of x are the common members of v and w
abbrev pub Common : ℕ → ℕ → ℕ → Type 0
Common v w x = (k : ℕ) → has k x ≡ (has k v && has k w)

-- the members of x are those of v and those of w
abbrev pub Union : ℕ → ℕ → ℕ → Type 0
Union v w x = (k : ℕ) → has k x ≡ (has k v || has k w)

-- the members of x are those of v that w lacks
abbrev pub Less : ℕ → ℕ → ℕ → Type 0
Less v w x = (k : ℕ) → has k x ≡ (has k v && not (has k w))

-- f says whether the sets v and w of n bits have a member in common
pub record Meeting (n v w : ℕ) (f : Bool) : Type 0 where
  pub found : f ≡ true → (k : ℕ) × (k < n) × (has k v ≡ true) × (has k w ≡ true)
  pub all : (k : ℕ) → has k v ≡ true → has k w ≡ true → f ≡ true

-- k, below n, is the least member of w
pub record LeastMember (n w k : ℕ) : Type 0 where
  pub below : k < n
  pub member : has k w ≡ true
  pub least : (j : ℕ) → j < k → has j w ≡ false

-- k is the least member of w, or n if the set of n bits is empty
pub record FirstMember (n w k : ℕ) : Type 0 where
  pub within : k ≤ n
  pub member : k < n → has k w ≡ true
  pub before : (j : ℕ) → j < k → has j w ≡ false

-- v is w without its member k
pub record Without (k w v : ℕ) : Type 0 where
  pub gone : has k v ≡ false
  pub whole : insert k v ≡ w
