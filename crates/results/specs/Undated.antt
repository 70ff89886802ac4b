-- Books that give no years. Assumes nothing.
use Rattle.std.specs.Prelude.{ℕ, ◌+◌, List, ◌≡◌, get_or}
use Rattle.results.specs.Load.{operands}

-- where the commands of a book begin: the first at 0, and each other one after the operands of the one before it
pub data CommandAt (bytes : List ℕ) : ℕ → Type 0 where
  command_first : CommandAt bytes 0
  command_later : {at : ℕ} → CommandAt bytes at → CommandAt bytes (at + 1 + operands (get_or bytes at 0))

-- none of its commands is 21: each rule is opened by 20
abbrev pub Undated : List ℕ → Type 0
Undated bytes = (at : ℕ) → CommandAt bytes at → get_or bytes at 0 ≡ 0x21 → ⊥
