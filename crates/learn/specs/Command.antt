-- What a command of a rule that is learnt means: the step that it makes. Assumes nothing.
use Rattle.std.specs.Prelude.{ℕ, not, List, ◌≡◌, eqb, Result}
use Rattle.grammar.specs.declared.Grammar.{Grammar}
use Rattle.answers.specs.declared.Fault.{Fault}
use Rattle.results.specs.Load.{open_rule, open_named}
use Rattle.results.specs.Learn.{learn_step}
use Rattle.load_commands.specs.Command.{step_of, Bounded}
use Rattle.load_commands.specs.declared.opcode.Command.{Command}

-- r is the command at an offset, for each grammar of this many rules, the last with this many places and a name of this word
pub record LearnRead (bytes : List ℕ) (at rules places word : ℕ) (r : Result Command Fault) : Type 0 where
  pub means : (g : Grammar) → g.count ≡ rules → (open_rule g).count ≡ places → open_named g ≡ not (eqb word 0)
      → step_of bytes r at g ≡ learn_step bytes at g
  pub bounded : Bounded bytes at rules places r
