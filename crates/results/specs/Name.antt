-- The name lookup: which part of the bytes of a book is the name of a rule, without its filling. Assumes nothing.
use Rattle.std.specs.Prelude.{ℕ, zero, suc, ◌+◌, Bool, cond, ◌&&◌, not, List, [], eqb, ltb, length, get_or, take, drop}
use Rattle.std.proofs.Math.Option.{Option, none, some}
use Rattle.theory_words.specs.Name.{name_size, unnamed, unfilled}
use Rattle.grammar.specs.declared.Grammar.{Grammar}
use Rattle.grammar.specs.Zero.{zero_grammar, no_rule}
use Rattle.results.specs.Answer.{refused_at, loaded}
use Rattle.results.specs.Load.{stop, next, done, step, load_of}

-- a part of a row of bytes: the offset at which it begins, and its length
pub record Part : Type 0 where
  pub offset : ℕ
  pub length : ℕ

abbrev pub empty_part : Part
empty_part = record { offset = 0; length = 0 }

-- the command at an offset names rule r: it is 60, and of the grammar read so far r is the open rule
abbrev pub names_rule : List ℕ → ℕ → ℕ → Grammar → Bool
names_rule bytes r at g = eqb (get_or bytes at 0) 0x60 && eqb g.count (suc r)

-- where the name of rule r begins: after the command at an offset if that names it, else where it is found later
abbrev pub name_by : List ℕ → ℕ → ℕ → Grammar → Option ℕ → Option ℕ
name_by bytes r at g later = cond (names_rule bytes r at g) (some (at + 1)) later

-- where it begins, by at most n commands from an offset and a grammar on
unfoldable pub name_found : List ℕ → ℕ → ℕ → ℕ → Grammar → Option ℕ
name_found bytes r zero at g = none
name_found bytes r (suc n) at g =
    elim (step bytes at g) [ stop f ↦ none | next at' g' ↦ name_by bytes r at g (name_found bytes r n at' g') | done g' ↦ none ]

-- where the name of rule r begins in a book
abbrev pub name_offset : List ℕ → ℕ → Option ℕ
name_offset bytes r = name_found bytes r (length bytes) 0 zero_grammar

-- the part that a name has without its filling, by where it begins
abbrev pub part_from : List ℕ → Option ℕ → Part
part_from bytes none = empty_part
part_from bytes (some at) = record { offset = at; length = length (unfilled (take name_size (drop at bytes))) }

-- the part that is the name of rule r; the empty one if the bytes do not load, or if they name no rule r
unfoldable pub name_part : List ℕ → ℕ → Part
name_part bytes r =
    elim (load_of bytes).answer
    [ refused_at n at ↦ empty_part | loaded ↦ part_from bytes (name_offset bytes r) ]

-- the name lookup: the bytes of that part
unfoldable pub name_of : List ℕ → ℕ → List ℕ
name_of bytes r = let p = name_part bytes r in take p.length (drop p.offset bytes)

-- the name in the record of rule r
abbrev pub record_name : Grammar → ℕ → List ℕ
record_name g r = (get_or g.rules r no_rule).name

-- the name that a grammar has for rule r, without its filling; nothing if r is no used rule, or if it has no name
abbrev pub recorded_name : Grammar → ℕ → List ℕ
recorded_name g r = cond (ltb r g.count && not (unnamed (record_name g r))) (unfilled (record_name g r)) []
