-- Demand 1 for loading: a book is refused at its first fault from the left, or read to its end; and what either gives. Assumes nothing.
use Rattle.std.specs.Prelude.{ℕ, ◌+◌, ◌-◌, ◌≤◌, ◌<◌, true, List, ◌⊎◌, ◌≡◌, length, get_or, drop, replicate}
use Rattle.sizes.specs.Sizes.{max_rules}
use Rattle.cfg.specs.Nullable.{depth_of}
use Rattle.grammar.specs.declared.Rule.{Rule}
use Rattle.grammar.specs.declared.Grammar.{Grammar}
use Rattle.grammar.specs.Setters.{set_depth}
use Rattle.grammar.specs.Valid.{valid_grammar}
use Rattle.grammar.specs.View.{whole_of}
use Rattle.grammar.specs.Zero.{zero_place, zero_rule, zero_grammar, no_rule}
use Rattle.results.specs.Answer.{refused_at, loaded}
use Rattle.results.specs.Load.{next, done, step, Loading}
use Rattle.demands.specs.LoadOrder.{stopped, CommandOrder}

-- read from the left, the commands before this offset have no fault, and this is the grammar after them
pub data Reached (bytes : List ℕ) : ℕ → Grammar → Type 0 where
  begin : Reached bytes 0 zero_grammar
  further : {at at' : ℕ} {g g' : Grammar} → Reached bytes at g → step bytes at g ≡ next at' g' → Reached bytes at' g'

-- a fault of the command at this offset, or of a book that ends there: its number, and the offset that is given for it
pub record FaultAt (bytes : List ℕ) (at number offset : ℕ) : Type 0 where
  pub low : 1 ≤ number
  pub high : 7 < number → (number ≡ 16 → ⊥) → (number ≡ 21 → ⊥) → number ≡ 17
  -- the offset for 1: the book's length
  pub one : number ≡ 1 → offset ≡ length bytes
  -- for 2 to 6: the offset of the command
  pub two_to_six : 2 ≤ number → number ≤ 6 → offset ≡ at
  pub sixteen : number ≡ 16 → offset ≡ at
  pub seventeen : number ≡ 17 → offset ≡ at
  pub twenty_one : number ≡ 21 → offset ≡ at
  -- for 7: the offset of the byte after 50
  pub seven : number ≡ 7 → offset ≡ at + 1

-- a rule record has 8 places, and those from its count on are zeros
pub record ZeroPlaces (r : Rule) : Type 0 where
  pub size : length r.places ≡ 8
  pub unused : drop r.count r.places ≡ replicate (8 - r.count) zero_place

-- a grammar has 128 rule records; those from its count on are zeros, and so are the unused places of each record
pub record ZeroBehind (g : Grammar) : Type 0 where
  pub size : length g.rules ≡ max_rules
  pub unused : drop g.count g.rules ≡ replicate (max_rules - g.count) zero_rule
  pub places : (i : ℕ) → i < max_rules → ZeroPlaces (get_or g.rules i no_rule)

-- a refused book: the number and the offset of its first fault, and a grammar of zeros
pub record LoadRefused (bytes : List ℕ) (r : Loading) : Type 0 where
  pub number : ℕ
  pub offset : ℕ
  pub answer : r.answer ≡ refused_at number offset
  pub grammar : r.grammar ≡ zero_grammar
  -- the first command with a fault, or the end: those before it have none
  pub at : ℕ
  pub before : Grammar
  pub reached : Reached bytes at before
  pub stops : step bytes at before ≡ stopped number offset
  pub fault : FaultAt bytes at number offset
  -- of the faults that apply there it is the first in document 01's order
  pub order : CommandOrder bytes at (get_or bytes at 0) before (stopped number offset)

-- a book that is read to its end
pub record LoadAccepted (bytes : List ℕ) (r : Loading) : Type 0 where
  pub answer : r.answer ≡ loaded
  -- no command has a fault, and the last one is 50, the book's last byte
  pub at : ℕ
  pub read : Grammar
  pub reached : Reached bytes at read
  pub ends : step bytes at read ≡ done read
  pub fifty : get_or bytes at 0 ≡ 0x50
  pub last : at + 1 ≡ length bytes
  -- the grammar is what the commands say with its nullable depth, check 8 lets it through, and what is unused in it is zero
  pub grammar : r.grammar ≡ set_depth read (depth_of (whole_of read))
  pub valid : valid_grammar r.grammar ≡ true
  pub behind : ZeroBehind r.grammar

-- what loading these bytes gives is one or the other
abbrev pub LoadDemand : List ℕ → Loading → Type 0
LoadDemand bytes r = LoadRefused bytes r ⊎ LoadAccepted bytes r
