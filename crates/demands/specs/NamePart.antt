-- The name lookup: which 60 of the book its part is behind, and where the part is empty. Assumes nothing.
use Rattle.std.specs.Prelude.{ℕ, ◌+◌, ◌≤◌, ◌<◌, true, List, ◌↔◌, ◌⊎◌, ◌≡◌, length, get_or, take, drop}
use Rattle.theory_words.specs.Name.{name_size, unnamed}
use Rattle.grammar.specs.declared.Grammar.{Grammar}
use Rattle.results.specs.Answer.{loaded}
use Rattle.results.specs.Load.{load_of}
use Rattle.results.specs.Name.{Part, empty_part, record_name}
use Rattle.demands.specs.LoadDemand.{Reached}

-- the part is behind the 60 at which loading named rule r
pub record BehindSixty (bytes : List ℕ) (r : ℕ) (p : Part) : Type 0 where
  -- the offset of the 60, and the grammar read before it
  pub at : ℕ
  pub before : Grammar
  pub reached : Reached bytes at before
  pub sixty : get_or bytes at 0 ≡ 0x60
  -- rule r was the open one, and has the name that follows the 60
  pub last : before.count ≡ r + 1
  pub name : record_name (load_of bytes).grammar r ≡ take name_size (drop (at + 1) bytes)
  pub offset : p.offset ≡ at + 1
  pub within : p.offset + p.length ≤ length bytes

-- there is no name: the bytes do not load, r is not below the count, or r has none
abbrev pub Nameless : List ℕ → ℕ → Type 0
Nameless bytes r =
    ((load_of bytes).answer ≡ loaded → ⊥) ⊎ ((load_of bytes).grammar.count ≤ r) ⊎ (unnamed (record_name (load_of bytes).grammar r) ≡ true)

-- the part that the lookup gives back
pub record NamePart (bytes : List ℕ) (r : ℕ) (p : Part) : Type 0 where
  pub found : 0 < p.length → BehindSixty bytes r p
  pub empty : (p.length ≡ 0) ↔ Nameless bytes r
  pub zeros : p.length ≡ 0 → p ≡ empty_part
