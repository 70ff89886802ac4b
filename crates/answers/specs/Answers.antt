-- What the calls return, as the answers of document 01: a refusal by its number, or what was asked. Assumes nothing.
use Rattle.std.specs.Prelude.{ℕ, Bool, ℤ, Option, None, Some, Result, Ok, Err}
use Rattle.results.specs.Answer.{Answer, refused, answered, Handing, handed, nothing, Figure, counted, more, LoadAnswer, refused_at, loaded}
use Rattle.answers.specs.declared.Refusal.{Refusal}
use Rattle.answers.specs.declared.Fault.{Fault}
use Rattle.answers.specs.declared.Figure.{Figure as Counted}
use Rattle.answers.specs.declared.Figure.TheVariants as Counts
use Rattle.answers.specs.Number.{number_of}

-- a call that answers, or is refused with a number
abbrev pub answer_of : {A B : Type 0} → (A → B) → Result A Refusal → Answer B
answer_of f (Ok a) = answered (f a)
answer_of f (Err r) = refused (number_of r)

-- loading: the number of the refusal and its offset, or loaded
abbrev pub outcome_of : Result Unit Fault → LoadAnswer
outcome_of (Ok u) = loaded
outcome_of (Err f) = refused_at (number_of f.refusal) f.at

-- opening, taking, check and same build: yes or no
abbrev pub verdict_of : Result Bool Refusal → Answer Bool
verdict_of = answer_of (λ b. b)

-- length: tenths of a millimetre
abbrev pub measured_of : Result ℤ Refusal → Answer ℤ
measured_of = answer_of (λ z. z)

-- words: how many bytes the text has
abbrev pub written_of : Result ℕ Refusal → Answer ℕ
written_of = answer_of (λ n. n)

-- the number of nodes, or that there is none
abbrev pub handing_in : Option ℕ → Handing
handing_in (Some n) = handed n
handing_in None = nothing

-- first and next: what was handed out
abbrev pub handing_of : Result (Option ℕ) Refusal → Answer Handing
handing_of = answer_of handing_in

-- a figure, or "more"
abbrev pub figure_in : Counted → Figure
figure_in (Counts.Exactly n) = counted n
figure_in Counts.More = more

-- count: what was counted
abbrev pub counted_of : Result Counted Refusal → Answer Figure
counted_of = answer_of figure_in
