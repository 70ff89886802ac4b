-- What learning leaves in the lent row of the grammar and in the lent offset, by whether its code is below those of refusals.
-- Assumes nothing.
use Prim.Native.Nat.{ℕ, ◌<◌}
use native.Mathlib.Omega.{arith}
use mathlib.Core.Bool.{Bool}
use mathlib.Core.List.{List}
use mathlib.Core.Path.{◌≡◌, refl}
use Rattle.grammar.specs.declared.Grammar.{Grammar}
use Rattle.c_grammar.specs.Flat.{flat_of}
use Rattle.results.specs.Answer.{Answer, refused, answered}
use Rattle.c_answer.specs.Code.{code_of, left_of, verdict_code, flat_left, fault_left}

-- a call that is not refused leaves the row of the longer grammar
pub learnt-flat : (a : Answer Bool) (g : Grammar) (code : ℕ) (flat found : List ℕ) → code ≡ code_of verdict_code a → code < 256
    → flat ≡ flat_of g → flat ≡ left_of (flat_left g) a found
learnt-flat (refused n) g code flat found e h w = absurd (omega arith)
learnt-flat (answered b) g code flat found e h w = w

-- it leaves the offset as found
pub learnt-offset : (a : Answer Bool) (code at found : ℕ) → code ≡ code_of verdict_code a → code < 256 → found ≡ fault_left at a found
learnt-offset (refused n) code at found e h = absurd (omega arith)
learnt-offset (answered b) code at found e h = refl
