-- The command that a byte stands for, if any. Assumes nothing.
use Rattle.std.specs.Prelude.{ℕ, true, ◌≡◌, Result, Ok, Err}
use Rattle.results.specs.Load.{unknown}
use Rattle.load_commands.specs.declared.opcode.Opcode.{Opcode}
use Rattle.load_commands.specs.declared.opcode.Opcode.TheVariants.{Start, Rule, RuleWithYears, Nonterminal, Terminal, Range}
use Rattle.load_commands.specs.declared.opcode.Opcode.TheVariants.{Name, End}
use Rattle.load_commands.specs.declared.opcode.UnknownByte.{UnknownByte}

-- the byte of a command
abbrev pub byte_of : Opcode → ℕ
byte_of Start = 0x10
byte_of Rule = 0x20
byte_of RuleWithYears = 0x21
byte_of Nonterminal = 0x30
byte_of Terminal = 0x40
byte_of Range = 0x41
byte_of Name = 0x60
byte_of End = 0x50

-- the result is the command that has the byte c, or an error where c is unknown
abbrev pub Classified : ℕ → Result Opcode UnknownByte → Type 0
Classified c (Ok k) = byte_of k ≡ c
Classified c (Err e) = unknown c ≡ true
