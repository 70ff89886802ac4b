-- The code that a call returns for its answer, and what the answer leaves in a lent place, given what was found there. A code is 0 for no
-- and none; 1 for yes, loaded, measured, written, handed out and counted; 2 for more; 256 plus the number of a refusal. Assumes nothing.
use Rattle.std.specs.Prelude.{ℕ, ◌+◌, Bool, true, false, List, ◌≡◌, ℤ}
use Rattle.grammar.specs.declared.Grammar.{Grammar}
use Rattle.c_grammar.specs.Flat.{flat_of}
use Rattle.c_hand.specs.Hand.{row_of}
use Rattle.results.specs.Answer.{Answer, refused, answered, Handing, handed, nothing, Figure, counted, more, LoadAnswer, refused_at, loaded}
use Rattle.results.specs.Recognize.{State}

-- the code of an answer: `code` gives it for what is answered
abbrev pub code_of : {A : Type 0} → (A → ℕ) → Answer A → ℕ
code_of code (refused n) = 256 + n
code_of code (answered a) = code a

-- what an answer leaves in a lent place: `left` gives it for what is answered, and a refused call leaves what was found
abbrev pub left_of : {A B : Type 0} → (A → B → B) → Answer A → B → B
left_of left (refused n) found = found
left_of left (answered a) found = left a found

-- opening, taking, learning, check and same build
abbrev pub verdict_code : Bool → ℕ
verdict_code true = 1
verdict_code false = 0

-- taking and learning: the row of the state
abbrev pub row_left : State → Bool → List ℕ → List ℕ
row_left s b found = row_of s

-- learning: the row of the longer grammar
abbrev pub flat_left : Grammar → Bool → List ℕ → List ℕ
flat_left g b found = flat_of g

-- length
abbrev pub length_code : ℤ → ℕ
length_code z = 1

-- length: the tenths of a millimetre
abbrev pub tenths_left : ℤ → ℤ → ℤ
tenths_left z found = z

-- words
abbrev pub words_code : ℕ → ℕ
words_code n = 1

-- words: how many bytes were written
abbrev pub bytes_left : ℕ → ℕ → ℕ
bytes_left n found = n

-- first and next
abbrev pub handing_code : Handing → ℕ
handing_code (handed n) = 1
handing_code nothing = 0

-- first and next: the nodes of the derivation handed out; a call that hands out none leaves the number found
abbrev pub nodes_left : Handing → ℕ → ℕ
nodes_left (handed n) found = n
nodes_left nothing found = found

-- count
abbrev pub figure_code : Figure → ℕ
figure_code (counted n) = 1
figure_code more = 2

-- count: the figure; a call that gives none leaves the number found
abbrev pub figure_left : Figure → ℕ → ℕ
figure_left (counted n) found = n
figure_left more found = found

-- loading
abbrev pub load_code : LoadAnswer → ℕ
load_code (refused_at n at) = 256 + n
load_code loaded = 1

-- loading: the offset of a refused book; a loaded one leaves the number found
abbrev pub offset_left : LoadAnswer → ℕ → ℕ
offset_left (refused_at n at) found = at
offset_left loaded found = found

-- learning: the offset of a refused rule; one that is learnt leaves the number found
abbrev pub fault_left : ℕ → Answer Bool → ℕ → ℕ
fault_left at (refused n) found = at
fault_left at (answered b) found = found

-- what a caller knows from the code and what is left: which answer it was, and that only a call with code 1 has written
pub record CodeKnown {A B : Type 0} (code : A → ℕ) (left : A → B → B) : Type 0 where
  pub apart : (x y : Answer A) (found : B) → code_of code x ≡ code_of code y → left_of left x found ≡ left_of left y found → x ≡ y
  pub kept : (x : Answer A) (found : B) → (code_of code x ≡ 1 → ⊥) → left_of left x found ≡ found
