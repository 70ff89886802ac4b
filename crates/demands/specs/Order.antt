-- For each call: the refusal given is the first that applies, in the documents' order. Causes have the numbers of their refusals.
-- Assumes nothing.
use Rattle.std.specs.Prelude.{ℕ, ◌+◌, ◌≤◌, ◌<◌, Bool, false, List, [], ◌∷◌, ◌⊎◌, ◌≡◌, length, get_or}
use Rattle.sizes.specs.Sizes.{cells, max_input, max_points, output_size}
use Rattle.cfg.specs.Derivation.{Derivation, limit}
use Rattle.grammar.specs.declared.Grammar.{Grammar}
use Rattle.grammar.specs.Valid.{valid_grammar}
use Rattle.grammar.specs.View.{Dated, grammar_of}
use Rattle.results.specs.Answer.{Answer, refused, Handing}
use Rattle.results.specs.Recognize.{State}
use Rattle.results.specs.Words.{words_text}
use Rattle.demands.specs.Cause.{Cause, cause, Decided}

-- the grammar is not valid
abbrev pub cause8 : Grammar → Cause ℕ
cause8 g = cause (valid_grammar g ≡ false) 8

-- the input has more than 64 bytes
abbrev pub cause9 : List ℕ → Cause ℕ
cause9 w = cause (max_input < length w) 9

-- the chart is shorter than 4,225 cells
abbrev pub cause10 : List ℕ → Cause ℕ
cause10 chart = cause (length chart < cells) 10

-- the output is shorter than 1,024 numbers
abbrev pub cause11 : List ℕ → Cause ℕ
cause11 out = cause (length out < output_size) 11

-- what is offered is no derivation; `offered` says that it is one
abbrev pub cause12 : Type 0 → Cause ℕ
cause12 offered = cause (offered → ⊥) 12

-- the state has a count over 64, or a set point past its count
abbrev pub cause14 : State → Cause ℕ
cause14 h = cause ((max_input < h.count) ⊎ ((k : ℕ) × (h.count + 1 < get_or h.points k 0))) 14

-- the state has taken 64 bytes
abbrev pub cause15 : State → Cause ℕ
cause15 h = cause (h.count ≡ max_input) 15

-- the text is longer than the buffer
abbrev pub cause18 : List ℕ → List ℕ → Cause ℕ
cause18 text buffer = cause (length buffer < length text) 18

-- the name of a point to set is over 7
abbrev pub cause19_name : ℕ → Cause ℕ
cause19_name k = cause (max_points ≤ k) 19

-- the name of a point to return to is over 7, or the point is not set
abbrev pub cause19_point : State → ℕ → Cause ℕ
cause19_point h k = cause ((max_points ≤ k) ⊎ (get_or h.points k 0 ≡ 0)) 19

-- there are no bytes of a rule to learn
abbrev pub cause20_empty : List ℕ → Cause ℕ
cause20_empty bytes = cause (length bytes ≡ 0) 20

-- nothing is refused
abbrev pub NoRefusal : {A : Type 0} → Answer A → Type 0
NoRefusal answer = (n : ℕ) → answer ≡ refused n → ⊥

-- only refusals after the checks 8 to 11 are given
abbrev pub OnlyLater : {A : Type 0} → Answer A → Type 0
OnlyLater answer = (n : ℕ) → answer ≡ refused n → 11 < n

-- opening
abbrev pub OpenOrder : Dated → List ℕ → Answer Bool → Type 0
OpenOrder g chart = Decided (cause8 g.grammar ∷ cause10 chart ∷ []) refused NoRefusal

-- taking
abbrev pub TakeOrder : Grammar → State → List ℕ → Answer Bool → Type 0
TakeOrder g h chart = Decided (cause8 g ∷ cause14 h ∷ cause10 chart ∷ cause15 h ∷ []) refused NoRefusal

-- setting a point
abbrev pub SetOrder : Grammar → State → ℕ → List ℕ → Answer Bool → Type 0
SetOrder g h k chart = Decided (cause8 g ∷ cause14 h ∷ cause10 chart ∷ cause19_name k ∷ []) refused NoRefusal

-- returning to a point
abbrev pub ReturnOrder : Grammar → State → ℕ → List ℕ → Answer Bool → Type 0
ReturnOrder g h k chart = Decided (cause8 g ∷ cause14 h ∷ cause10 chart ∷ cause19_point h k ∷ []) refused NoRefusal

-- check, length, same build and count
abbrev pub InputOrder : {A : Type 0} → Dated → List ℕ → List ℕ → Answer A → Type 0
InputOrder g w chart = Decided (cause8 g.grammar ∷ cause9 w ∷ cause10 chart ∷ []) refused OnlyLater

-- first and next
abbrev pub OutputOrder : Dated → List ℕ → List ℕ → List ℕ → Answer Handing → Type 0
OutputOrder g w chart out = Decided (cause8 g.grammar ∷ cause9 w ∷ cause10 chart ∷ cause11 out ∷ []) refused OnlyLater

-- words
abbrev pub WordsOrder : Dated → List ℕ → List ℕ → List ℕ → List ℕ → Answer ℕ → Type 0
WordsOrder g w e chart buffer =
    Decided
    (cause8 g.grammar ∷ cause9 w ∷ cause10 chart ∷ cause12 (Derivation (grammar_of g) limit w e) ∷ cause18 (words_text g w e) buffer ∷ [])
    refused NoRefusal
