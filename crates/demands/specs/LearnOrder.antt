-- Learning a rule, at one command: the refusal given is the first that applies, in the order 2, 20, 3, 1, 4, 16, 17 or 21, then 5 or 6; and
-- the offset that is given for it. Assumes nothing.
use Rattle.std.specs.Prelude.{ℕ, ◌≤◌, ◌<◌, Bool, ◌&&◌, List, ◌∷◌, ◌≡◌, eqb, length, get_or}
use Rattle.grammar.specs.declared.Grammar.{Grammar}
use Rattle.theory_tidying.specs.Tidying.{tidied}
use Rattle.results.specs.Load.{unknown, open_named, Fault, Step, stop, next}
use Rattle.results.specs.Learn.{misplaced, learn_step}
use Rattle.demands.specs.Cause.{Cause, Decided}
use Rattle.demands.specs.LoadOrder.{stopped, stops, operand_causes}

-- 3: a second name for the rule
abbrev pub second_name : ℕ → Grammar → Bool
second_name c g = eqb c 0x60 && open_named g

-- the causes for the command c at an offset; g is the grammar read so far
abbrev pub learn_causes : List ℕ → ℕ → ℕ → Grammar → List (Cause Fault)
learn_causes bytes at c g =
    stops (unknown c) 2 at ∷ stops (misplaced c at) 20 at ∷ stops (second_name c g) 3 at ∷ operand_causes bytes at c g

-- the first of them that applies decides; if none applies, learning does not stop here
abbrev pub LearnCommandOrder : List ℕ → ℕ → ℕ → Grammar → Step → Type 0
LearnCommandOrder bytes at c g = Decided (learn_causes bytes at c g) stop (λ result. (f : Fault) → result ≡ stop f → ⊥)

-- read from the left, the commands before this offset have no fault, and this is the grammar after them; it begins as g without rubbish
pub data LearnReached (g : Grammar) (bytes : List ℕ) : ℕ → Grammar → Type 0 where
  learn_begin : LearnReached g bytes 0 (tidied g)
  learn_further : {at at' : ℕ} {h h' : Grammar} → LearnReached g bytes at h → learn_step bytes at h ≡ next at' h'
      → LearnReached g bytes at' h'

-- a fault of the command at this offset: its number, and the offset that is given for it
pub record LearnFaultAt (bytes : List ℕ) (at number offset : ℕ) : Type 0 where
  pub low : 1 ≤ number
  pub high : 6 < number → (number ≡ 16 → ⊥) → (number ≡ 17 → ⊥) → (number ≡ 20 → ⊥) → number ≡ 21
  -- the offset for 1: the length of the bytes
  pub one : number ≡ 1 → offset ≡ length bytes
  -- for the others: the offset of the command
  pub others : 1 < number → offset ≡ at

-- the bytes are refused at their first command with a fault: its number and the offset given for it
pub record RuleRefused (g : Grammar) (bytes : List ℕ) (number offset : ℕ) : Type 0 where
  pub at : ℕ
  pub before : Grammar
  pub within : at < length bytes
  pub reached : LearnReached g bytes at before
  pub halts : learn_step bytes at before ≡ stopped number offset
  pub fault : LearnFaultAt bytes at number offset
  -- of the faults that apply there it is the first
  pub order : LearnCommandOrder bytes at (get_or bytes at 0) before (stopped number offset)
