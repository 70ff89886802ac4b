-- A list of operations on a plate in hand (document 02, U6 and U8): what each replies, and what is held after it, by the decided results.
-- Assumes nothing.
use Rattle.std.specs.Prelude.{Bool, List, [], ◌∷◌, ℕ}
use Rattle.theory_points.specs.Machine.{Op, take_byte, set_point, return_to, learn}
use Rattle.grammar.specs.declared.Grammar.{Grammar}
use Rattle.results.specs.Answer.{Answer}
use Rattle.results.specs.Recognize.{State, Recognition, take_of}
use Rattle.results.specs.Points.{set_point_of, return_to_of}
use Rattle.results.specs.Learn.{Learning, learn_of}

-- what is held: the grammar, which only learning changes, the state and the chart
pub record Held : Type 0 where
  pub grammar : Grammar
  pub state : State
  pub chart : List ℕ

-- what is held after a call on the grammar g
abbrev pub held_after : Grammar → Recognition → Held
held_after g r = record { grammar = g; state = r.state; chart = r.chart }

-- what an operation replies: yes if complete, no, or the number of a refusal; and an offset, which only a rule's refusal has above 0
pub record Reply : Type 0 where
  pub answer : Answer Bool
  pub offset : ℕ

-- the reply of one operation, and what is held after it
pub record Did : Type 0 where
  pub reply : Reply
  pub held : Held

-- by a call that keeps the grammar g
abbrev pub did_by : Grammar → Recognition → Did
did_by g r = record { reply = record { answer = r.answer; offset = 0 }; held = held_after g r }

-- by learning
abbrev pub did_learn : Learning → Did
did_learn l = record {
  reply = record { answer = l.answer; offset = l.offset };
  held = record { grammar = l.grammar; state = l.state; chart = l.chart };
}

-- one operation
unfoldable pub did : Op → Held → Did
did (take_byte m) x = did_by x.grammar (take_of x.grammar x.state m x.chart)
did (set_point k) x = did_by x.grammar (set_point_of x.grammar x.state k x.chart)
did (return_to k) x = did_by x.grammar (return_to_of x.grammar x.state k x.chart)
did (learn bytes) x = did_learn (learn_of x.grammar x.state bytes x.chart)

-- the replies of a list of operations, in their order, and what is held at the end
pub record Ran : Type 0 where
  pub replies : List Reply
  pub held : Held

-- a list of operations, each on what the one before it left
unfoldable pub ran : List Op → Held → Ran
ran [] x = record { replies = []; held = x }
ran (op ∷ ops) x =
    let rest = ran ops (did op x).held in
    record { replies = (did op x).reply ∷ rest.replies; held = rest.held }
