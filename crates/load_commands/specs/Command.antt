-- What a command that was read means: the step of loading that it makes, and the bounds that it keeps. Assumes nothing.
use Rattle.std.specs.Prelude.{ℕ, ◌+◌, ◌≤◌, ◌<◌, Bool, true, cond, not, ◌&&◌, ◌||◌, List, ◌≡◌, eqb, ltb, length, get_or, drop}
use Rattle.std.specs.Prelude.{Result, Ok, Err}
use Rattle.sizes.specs.Sizes.{max_rules, max_places}
use Rattle.theory_words.specs.Name.{valid_name, has_name}
use Rattle.names.specs.Word.{word_of}
use Rattle.grammar.specs.declared.Symbol.{Symbol}
use Rattle.grammar.specs.declared.Symbol.TheVariants.{Range}
use Rattle.grammar.specs.declared.Grammar.{Grammar}
use Rattle.grammar.specs.Valid.{names_of}
use Rattle.answers.specs.declared.Refusal.{Refusal}
use Rattle.answers.specs.declared.Refusal.TheVariants as R
use Rattle.answers.specs.declared.Fault.{Fault}
use Rattle.answers.specs.Number.{number_of}
use Rattle.results.specs.Answer.{decide}
use Rattle.results.specs.Load.{Step, stop, next, done, signed, given_name, open_rule, with_start, with_rule, with_place, with_name}
use Rattle.results.specs.Load.{opens_rule, open_named, operand_checks, carried_out, step}
use Rattle.load_commands.specs.declared.opcode.Command.{Command}
use Rattle.load_commands.specs.declared.opcode.Command.TheVariants.{Start, Rule, Place, Name, End}
use Rattle.load_commands.specs.declared.opcode.Header.{Header}

-- check 4, for the command c: its first operand a is a nonterminal, and over 31
abbrev pub too_large : (c a : ℕ) → Bool
too_large c a = (eqb c 0x10 || opens_rule c || eqb c 0x30) && ltb 31 a

-- what a rule is opened with
abbrev pub header_with : (left low high first last : ℕ) → Header
header_with left low high first last = record { left = left; low = low; high = high; first = first; last = last }

-- a refused command: the refusal, and the offset that it names
abbrev pub fault_at : Refusal → ℕ → Result Command Fault
fault_at r at = Err (record { refusal = r; at = at })

-- a command of this many bytes that opens a rule, after this many rules
abbrev pub rule_command : (at rules : ℕ) → Header → ℕ → Result Command Fault
rule_command at rules h bytes = cond (ltb 127 rules) (fault_at R.TooManyRules at) (Ok (Rule h bytes))

-- 21 after this many rules
abbrev pub years_command : (at rules : ℕ) → Header → Result Command Fault
years_command at rules h = cond (ltb h.last h.first) (fault_at R.YearsReversed at) (rule_command at rules h 8)

-- a command of this many bytes that adds a place, in a rule of this many places
abbrev pub place_command : (at places : ℕ) → Symbol → ℕ → Result Command Fault
place_command at places s bytes = cond (ltb 7 places) (fault_at R.TooManyPlaces at) (Ok (Place s bytes))

-- 41 in a rule of this many places
abbrev pub range_command : (at places low high : ℕ) → Result Command Fault
range_command at places low high = cond (ltb high low) (fault_at R.RangeReversed at) (place_command at places (Range low high) 3)

-- 50, which ends at the offset past, in a book of len bytes
abbrev pub end_command : (past len : ℕ) → Result Command Fault
end_command past len = cond (ltb past len) (fault_at R.FurtherByte past) (Ok End)

-- the eight bytes of a book from an offset on
abbrev pub name_from : List ℕ → ℕ → List ℕ
name_from bytes first = given_name (λ i. get_or bytes (first + i) 0)

-- 60, whose name begins at the offset first, has this word, and is valid or not
abbrev pub name_command : (at first word : ℕ) → Bool → Result Command Fault
name_command at first word valid = cond valid (Ok (Name first word)) (fault_at R.InvalidName at)

-- the step that a command at an offset of a book makes; a valid name can still be an earlier one
abbrev pub step_of : List ℕ → Result Command Fault → ℕ → Grammar → Step
step_of book (Ok (Start k)) at g = next (at + 2) (with_start g k)
step_of book (Ok (Rule h bytes)) at g = next (at + bytes) (with_rule g h.left (signed h.low h.high) h.first h.last)
step_of book (Ok (Place s bytes)) at g = next (at + bytes) (with_place g s)
step_of book (Ok (Name first word)) at g =
    let name = name_from book first in
    cond (has_name name (names_of g)) (stop (record { number = 17; offset = at })) (next (at + 9) (with_name g name))
step_of book (Ok End) at g = done g
step_of book (Err f) at g = stop (record { number = number_of f.refusal; offset = f.at })

-- the bounds of a command in a book, after this many rules, the last with this many places
abbrev pub Bounded : List ℕ → (at rules places : ℕ) → Result Command Fault → Type 0
Bounded book at rules places (Ok (Start k)) = at + 2 ≤ length book
Bounded book at rules places (Ok (Rule h bytes)) = (0 < bytes) × (at + bytes ≤ length book) × (rules < max_rules)
Bounded book at rules places (Ok (Place s bytes)) = (0 < bytes) × (at + bytes ≤ length book) × (places < max_places)
Bounded book at rules places (Ok (Name first word)) =
    (first ≡ at + 1) × (at + 9 ≤ length book) × (valid_name (name_from book first) ≡ true) × (word ≡ word_of (name_from book first))
Bounded book at rules places (Ok End) = Unit {0}
Bounded book at rules places (Err f) = Unit {0}

-- the step of the command c, once it is in turn and the first n checks after that are passed
abbrev pub step_past : ℕ → List ℕ → (at c : ℕ) → Grammar → Step
step_past n bytes at c g = decide (drop n (operand_checks bytes at c g)) stop (λ _. carried_out bytes at c g)

-- r is what c means once these checks are passed, for each grammar of this many rules, the last with this many places
pub record ChecksPassed (n : ℕ) (bytes : List ℕ) (at c rules places : ℕ) (r : Result Command Fault) : Type 0 where
  pub means : (g : Grammar) → g.count ≡ rules → (open_rule g).count ≡ places → step_of bytes r at g ≡ step_past n bytes at c g
  pub bounded : Bounded bytes at rules places r

-- r is the command at an offset, for each grammar of this many rules, the last with this many places and a name of this word
pub record CommandRead (bytes : List ℕ) (at rules places word : ℕ) (r : Result Command Fault) : Type 0 where
  pub means : (g : Grammar) → g.count ≡ rules → (open_rule g).count ≡ places → open_named g ≡ not (eqb word 0)
      → step_of bytes r at g ≡ step bytes at g
  pub bounded : Bounded bytes at rules places r
