-- The parts of a step of loading: the byte of each opcode is known, when a rule is late, and what a place and the end are read as. Assumes
-- nothing.
use Prim.Native.Nat.{ℕ, ◌≤◌, ◌<◌}
use native.Mathlib.Omega.{arith}
use mathlib.Core.Bool.{false, not, or-false}
use mathlib.Core.Path.{◌≡◌, refl}
use borrow.Author.Tests.{lt-ltb, le-ltb}
use Rattle.std.specs.Prelude.{Result, Ok}
use Rattle.sizes.specs.Sizes.{max_places}
use Rattle.grammar.specs.declared.Symbol.{Symbol}
use Rattle.answers.specs.declared.Refusal.TheVariants as R
use Rattle.results.specs.Load.{unknown}
use Rattle.load_commands.specs.Class.{byte_of}
use Rattle.load_commands.specs.Command.{header_with, place_command, end_command, fault_at}
use Rattle.load_commands.specs.Turn.{late}
use Rattle.load_commands.specs.declared.opcode.Command.TheVariants.{Place, End}
use Rattle.load_commands.specs.declared.opcode.Opcode.{Opcode}
use Rattle.load_commands.specs.declared.opcode.Opcode.TheVariants as O
use Rattle.load_commands.specs.declared.opcode.Turn.{Turn}

-- ---- the byte of each opcode

pub byte-known : (k : Opcode) → unknown (byte_of k) ≡ false
unfolding unknown
byte-known O.Start = refl
byte-known O.Rule = refl
byte-known O.RuleWithYears = refl
byte-known O.Nonterminal = refl
byte-known O.Terminal = refl
byte-known O.Range = refl
byte-known O.Name = refl
byte-known O.End = refl

-- ---- what a rule is opened with, from the bytes of its length

pub header-same : (left low low' high high' first last : ℕ) → low ≡ low' → high ≡ high'
    → header_with left low high first last ≡ header_with left low' high' first last
header-same left low low' high high' first last l h = λ i. header_with left (l i) (h i) first last

-- ---- the turn of a rule, a place that fits, and the end

pub late_rule : (k : Opcode) (t : Turn) → k ≡ O.Rule → not t.started ≡ late (byte_of k) t
late_rule k t e = rw (e, or-false (not t.started))

pub place_read : (at places : ℕ) (s : Symbol) (bytes : ℕ) → places < max_places → Ok (Place s bytes) ≡ place_command at places s bytes
place_read at places s bytes h = rw (le-ltb 7 places (omega arith))

module _ (at len : ℕ) where
  pub end_more : at < len → fault_at R.FurtherByte at ≡ end_command at len
  end_more h = rw (lt-ltb at len h)

  pub end_read : len ≤ at → Ok End ≡ end_command at len
  end_read h = rw (le-ltb at len h)
