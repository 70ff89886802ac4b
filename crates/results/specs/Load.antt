-- Loading: from the bytes of a book to the loaded grammar, or to the number and the offset of the first fault and a grammar of no rules.
-- Assumes nothing.
use Rattle.std.specs.Prelude.{ℕ, zero, suc, ◌+◌, ◌*◌, ◌-◌, Bool, cond, ◌&&◌, ◌||◌, not, List, [], ◌∷◌, eqb, ltb, ℤ, pos, neg_ℤ, length, get_or}
use Rattle.cfg.specs.Nullable.{depth_of}
use Rattle.theory_words.specs.Name.{valid_name, unnamed, has_name}
use Rattle.grammar.specs.declared.Symbol.{Symbol}
use Rattle.grammar.specs.declared.Symbol.TheVariants.{Nonterminal, Terminal, Range}
use Rattle.grammar.specs.declared.Rule.{Rule}
use Rattle.grammar.specs.declared.Grammar.{Grammar}
use Rattle.grammar.specs.Setters.{last_year, opened_rule, placed_rule, set_name, set_start, set_count, set_depth, set_rule}
use Rattle.grammar.specs.Valid.{names_of}
use Rattle.grammar.specs.View.{whole_of}
use Rattle.grammar.specs.Zero.{zero_grammar, no_rule}
use Rattle.results.specs.Answer.{LoadAnswer, refused_at, loaded, Check, check, decide}

-- how many operand bytes follow a command byte
unfoldable pub operands : ℕ → ℕ
operands c = cond (eqb c 0x20) 3 (cond (eqb c 0x21) 7 (cond (eqb c 0x41) 2 (cond (eqb c 0x50) 0 (cond (eqb c 0x60) 8 1))))

-- operand number i, from 0, of the command at an offset; past the end of the book it is 0
unfoldable pub operand : List ℕ → ℕ → ℕ → ℕ
operand bytes at i = get_or bytes (at + 1 + i) 0

-- a number of 16 bits, from its low and its high byte
abbrev pub word : ℕ → ℕ → ℕ
word low high = low + 256 * high

-- a signed number of 16 bits in two's complement, from its low and its high byte
unfoldable pub signed : ℕ → ℕ → ℤ
signed low high = let n = word low high in cond (ltb n 32768) (pos n) (neg_ℤ (pos (65536 - n)))

-- 21: its first and its last year, by its operands
abbrev pub from_year : (ℕ → ℕ) → ℕ
from_year x = word (x 3) (x 4)

abbrev pub to_year : (ℕ → ℕ) → ℕ
to_year x = word (x 5) (x 6)

-- 60: its name, by its operands
abbrev pub given_name : (ℕ → ℕ) → List ℕ
given_name x = x 0 ∷ x 1 ∷ x 2 ∷ x 3 ∷ x 4 ∷ x 5 ∷ x 6 ∷ x 7 ∷ []

-- the open rule: the last one
unfoldable pub open_rule : Grammar → Rule
open_rule g = get_or g.rules (g.count - 1) no_rule

-- 10: the grammar with this start symbol
unfoldable pub with_start : Grammar → ℕ → Grammar
with_start g k = set_start g k

-- 20 and 21: the grammar with one rule more, after those it has: of this left side, length, first and last year, and with no place yet
unfoldable pub with_rule : Grammar → ℕ → ℤ → ℕ → ℕ → Grammar
with_rule g k hundredths first last = set_count (set_rule g g.count (opened_rule k hundredths first last)) (g.count + 1)

-- 30, 40 and 41: the grammar with one place more in its open rule
unfoldable pub with_place : Grammar → Symbol → Grammar
with_place g s = set_rule g (g.count - 1) (placed_rule (open_rule g) s)

-- 60: the grammar whose open rule has this name
unfoldable pub with_name : Grammar → List ℕ → Grammar
with_name g name = set_rule g (g.count - 1) (set_name (open_rule g) name)

-- the grammar after the command c with these operands
unfoldable pub after : ℕ → (ℕ → ℕ) → Grammar → Grammar
after c x g =
    cond (eqb c 0x10) (with_start g (x 0)) (cond (eqb c 0x20) (with_rule g (x 0) (signed (x 1) (x 2)) 0 last_year)
    (cond (eqb c 0x21) (with_rule g (x 0) (signed (x 1) (x 2)) (from_year x) (to_year x))
    (cond (eqb c 0x30) (with_place g (Nonterminal (x 0))) (cond (eqb c 0x40) (with_place g (Terminal (x 0)))
    (cond (eqb c 0x41) (with_place g (Range (x 0) (x 1))) (cond (eqb c 0x60) (with_name g (given_name x)) g))))))

-- the number of a refusal and its offset
pub record Fault : Type 0 where
  pub number : ℕ
  pub offset : ℕ

abbrev pub fault : Bool → ℕ → ℕ → Check Fault
fault b n at = check b (record { number = n; offset = at })

-- 2 unknown byte
unfoldable pub unknown : ℕ → Bool
unknown c = not (eqb c 0x10 || eqb c 0x20 || eqb c 0x21 || eqb c 0x30 || eqb c 0x40 || eqb c 0x41 || eqb c 0x50 || eqb c 0x60)

-- a command that opens a rule
abbrev pub opens_rule : ℕ → Bool
opens_rule c = eqb c 0x20 || eqb c 0x21

-- a command that adds a place
abbrev pub adds_place : ℕ → Bool
adds_place c = eqb c 0x30 || eqb c 0x40 || eqb c 0x41

-- the open rule has a name
unfoldable pub open_named : Grammar → Bool
open_named g = not (unnamed (open_rule g).name)

-- 3 out of turn: 10 not first or again, another command first, a second name for a rule, a place or a name before any 20 or 21
unfoldable pub out_of_turn : ℕ → ℕ → Grammar → Bool
out_of_turn c at g =
    cond (eqb c 0x10) (ltb 0 at) (eqb at 0 || cond (eqb c 0x60) (open_named g || eqb g.count 0) (adds_place c && eqb g.count 0))

-- 17: a name is empty, has another byte, a blank before a letter or digit, or equals an earlier name
unfoldable pub refused_name : Grammar → List ℕ → Bool
refused_name g name = not (valid_name name) || has_name name (names_of g)

-- the checks of the command c at an offset that come after its turn is checked, in their order
unfoldable pub operand_checks : List ℕ → ℕ → ℕ → Grammar → List (Check Fault)
operand_checks bytes at c g =
    fault (ltb (length bytes) (at + 1 + operands c)) 1 (length bytes)
    ∷ fault ((eqb c 0x10 || opens_rule c || eqb c 0x30) && ltb 31 (operand bytes at 0)) 4 at
    ∷ fault (eqb c 0x41 && ltb (operand bytes at 1) (operand bytes at 0)) 16 at
    ∷ fault (eqb c 0x60 && refused_name g (given_name (operand bytes at))) 17 at
    ∷ fault (eqb c 0x21 && ltb (to_year (operand bytes at)) (from_year (operand bytes at))) 21 at
    ∷ fault (opens_rule c && ltb 127 g.count) 5 at
    ∷ fault (adds_place c && ltb 7 (open_rule g).count) 6 at
    ∷ fault (eqb c 0x50 && ltb (at + 1) (length bytes)) 7 (at + 1)
    ∷ []

-- all checks of the command c at an offset, in their order
unfoldable pub command_checks : List ℕ → ℕ → ℕ → Grammar → List (Check Fault)
command_checks bytes at c g = fault (unknown c) 2 at ∷ fault (out_of_turn c at g) 3 at ∷ operand_checks bytes at c g

-- what reading a command comes to: a fault, the next offset with the grammar so far, or the end of the book
pub data Step : Type 0 where
  stop : Fault → Step
  next : ℕ → Grammar → Step
  done : Grammar → Step

-- what the command c at an offset comes to once its checks are passed
unfoldable pub carried_out : List ℕ → ℕ → ℕ → Grammar → Step
carried_out bytes at c g = cond (eqb c 0x50) (done g) (next (at + 1 + operands c) (after c (operand bytes at) g))

-- one command at an offset, with any grammar read so far; it is fault 1 if the book ends there
unfoldable pub step : List ℕ → ℕ → Grammar → Step
step bytes at g =
    let c = get_or bytes at 0 in
    decide (fault (not (ltb at (length bytes))) 1 (length bytes) ∷ command_checks bytes at c g) stop (λ _. carried_out bytes at c g)

-- what loading gives: its answer and a grammar
pub record Loading : Type 0 where
  pub answer : LoadAnswer
  pub grammar : Grammar

-- a refused book: the number and the offset of its fault, and the grammar of no rules
unfoldable pub refused_load : Fault → Loading
refused_load f = record { answer = refused_at f.number f.offset; grammar = zero_grammar }

-- a loaded book, with its nullable depth (blank depth)
unfoldable pub accepted_load : Grammar → Loading
accepted_load g = record { answer = loaded; grammar = set_depth g (depth_of (whole_of g)) }

-- at most n commands, from an offset and a grammar on. A book has at most as many commands as bytes, so after these it has ended
unfoldable pub run : List ℕ → ℕ → ℕ → Grammar → Loading
run bytes zero at g = refused_load (record { number = 1; offset = length bytes })
run bytes (suc n) at g =
    elim (step bytes at g) [ stop f ↦ refused_load f | next at' g' ↦ run bytes n at' g' | done g' ↦ accepted_load g' ]

-- loading
unfoldable pub load_of : List ℕ → Loading
load_of bytes = run bytes (length bytes) 0 zero_grammar
