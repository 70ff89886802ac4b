-- The text of a book, a file with a year and a plate is that of their fronts. Assumes nothing.
use Prim.Native.Nat.{ℕ, zero, suc, ◌+◌, ◌≤◌, ◌<◌}
use native.Mathlib.Decide.{dec_lt}
use native.Mathlib.Omega.{arith}
use mathlib.Core.Bool.{Bool, true, false, cond, not}
use mathlib.Core.List.{List, [], ◌∷◌}
use mathlib.Core.Logic.{dite}
use mathlib.Core.Path.{◌≡◌, refl, sym, ap, ap₂, ◌∙◌}
use lib.Dec.{eqb, ltb}
use lib.ListN.{length, get_or, take}
use lib.Seq.{take_all, get_or-take, length-take-le}
use borrow.Author.Tests.{lt-ltb, le-ltb}
use Rattle.sizes.specs.Sizes.{max_input}
use Rattle.grammar.specs.declared.Grammar.{Grammar}
use Rattle.grammar.specs.View.{Dated, dated}
use Rattle.grammar.specs.Zero.{zero_grammar}
use Rattle.results.specs.Answer.{LoadAnswer, refused_at, loaded, Check, decide}
use Rattle.results.specs.Load.{operands, operand, open_named, Fault, fault, operand_checks, command_checks}
use Rattle.results.specs.Load.{Step, stop, next, done, carried_out, step, Loading, run, load_of}
use Rattle.results.proofs.Decide.{Agree, agree-end, agree_same, agree-passed, decide-agree}
use Rattle.results.proofs.Loading.Run.{run-stop, run-next, run-done, step-forward}
use Rattle.results.proofs.Loading.Commands.{after_same, step_kept}
use Rattle.text.specs.Front.{book_front, year_front, plate_front}
use Rattle.text.specs.Line.{refused_line}
use Rattle.text.specs.Text.{input_text, loaded_text, year_in, text_of}
use Rattle.text.proofs.Near.{Near, name-few, near-invariant}

operands-few : (c : ℕ) → operands c ≤ 8
unfolding operands
operands-few c = go (eqb c 0x20) (eqb c 0x21) (eqb c 0x41) (eqb c 0x50) (eqb c 0x60)
  where
    go : (s t u v w : Bool) → cond s 3 (cond t 7 (cond u 2 (cond v 0 (cond w 8 1)))) ≤ 8
    go true t u v w = omega arith
    go false true u v w = omega arith
    go false false true v w = omega arith
    go false false false true w = omega arith
    go false false false false true = omega arith
    go false false false false false = omega arith

-- ---- two long books with the same front

-- no command starts at a greater offset
abbrev farthest : ℕ
farthest = 5285

near-bound : (at : ℕ) (g : Grammar) → Near at g → at ≤ farthest
near-bound at g N = omega (arith, N.few, N.places, N.near, name-few (open_named g))

module _ (s t : List ℕ) (long-s : book_front ≤ length s) (long-t : book_front ≤ length t)
    (same : (i : ℕ) → i < book_front → get_or s i 0 ≡ get_or t i 0) where
  -- a command c near the start, in each of the books
  module _ (at : ℕ) (g : Grammar) (h : at ≤ farthest) (c : ℕ) where
    operand_same : (i : ℕ) → i < 8 → operand s at i ≡ operand t at i
    unfolding operand
    operand_same i l = same (at + 1 + i) (omega arith)

    carried_same : carried_out s at c g ≡ carried_out t at c g
    unfolding carried_out
    carried_same = rw (after_same c (operand s at) (operand t at) g operand_same)

    abbrev checks : List ℕ → List (Check Fault)
    checks b = fault (not (ltb at (length b))) 1 (length b) ∷ command_checks b at c g

    -- neither book ends here
    begins : (b : List ℕ) → book_front ≤ length b → not (ltb at (length b)) ≡ false
    begins b l = rw (lt-ltb at (length b) (omega arith))

    whole : (b : List ℕ) → book_front ≤ length b → ltb (length b) (at + 1 + operands c) ≡ false
    whole b l = le-ltb (length b) (at + 1 + operands c) (omega (arith, operands-few c))

    further : (b : List ℕ) → book_front ≤ length b → ltb (at + 1) (length b) ≡ true
    further b l = lt-ltb (at + 1) (length b) (omega arith)

    checks-agree : Agree Fault (checks s) (checks t)
    unfolding command_checks operand_checks
    checks-agree = rw (
      operand_same 0 (omega arith),
      operand_same 1 (omega arith),
      operand_same 2 (omega arith),
      operand_same 3 (omega arith),
      operand_same 4 (omega arith),
      operand_same 5 (omega arith),
      operand_same 6 (omega arith),
      operand_same 7 (omega arith),
      further s long-s,
      further t long-t,
    ) (
        agree-passed (begins s long-s) (begins t long-t) (agree_same _ (agree_same _ (agree-passed (whole s long-s) (whole t long-t)
        (agree_same _ (agree_same _ (agree_same _ (agree_same _ (agree_same _ (agree_same _ (agree_same _ agree-end)))))))))))

  step_same : (at : ℕ) (g : Grammar) → at ≤ farthest → step s at g ≡ step t at g
  unfolding step
  step_same at g h = let c = get_or t at 0 in rw (same at (omega arith))
      (decide-agree stop (λ _. carried_out s at c g) (checks-agree at g h c)
      ∙ ap (λ (x : Step). decide (checks at g h c t) stop (λ _. x)) (carried_same at g h c))

  -- both runs are the same if enough commands are allowed in each
  run-same : (m n at : ℕ) (g : Grammar) → Near at g → farthest < at + m → farthest < at + n → run s m at g ≡ run t n at g
  run-same zero n at g N h k = absurd (omega (arith, near-bound at g N))
  run-same (suc m) zero at g N h k = absurd (omega (arith, near-bound at g N))
  run-same (suc m) (suc n) at g N h k =
      go (step t at g) refl (λ at' g' l K. run-same m n at' g' K (omega arith) (omega arith))
    where
      e : step s at g ≡ step t at g
      e = step_same at g (near-bound at g N)

      go : (r : Step) → step t at g ≡ r → ((at' : ℕ) (g' : Grammar) → at < at' → Near at' g' → run s m at' g' ≡ run t n at' g')
          → run s (suc m) at g ≡ run t (suc n) at g
      go (stop f) p later = run-stop m s at g f (e ∙ p) ∙ sym (run-stop n t at g f p)
      go (next at' g') p later =
          run-next m s at g at' g' (e ∙ p) ∙ later at' g' (step-forward t at g at' g' p) (step_kept (near-invariant t) at g N at' g' p)
          ∙ sym (run-next n t at g at' g' p)
      go (done g') p later = run-done m s at g g' (e ∙ p) ∙ sym (run-done n t at g g' p)

  load_same : load_of s ≡ load_of t
  unfolding load_of
  load_same = run-same (length s) (length t) 0 zero_grammar (near-invariant s).zero (omega arith) (omega arith)

-- ---- the book

load-front : (book : List ℕ) → load_of (take book_front book) ≡ load_of book
load-front book = dite (dec_lt book_front (length book))
    (λ h. let e = length-take-le book_front book (omega arith) in
    load_same (take book_front book) book (omega arith) (omega arith) (λ i l. get_or-take book_front book i 0 l))
    (λ h. ap load_of (take_all book_front book (omega arith)))

-- ---- the plate

-- a plate of more than 64 bytes is refused
input-long : (g : Dated) (w : List ℕ) → plate_front ≤ length w → input_text g w ≡ refused_line 9 ∷ []
unfolding input_text decide
input-long g w h = rw (lt-ltb max_input (length w) (omega arith))

input-front : (g : Dated) (w : List ℕ) → input_text g (take plate_front w) ≡ input_text g w
input-front g w = dite (dec_lt plate_front (length w))
    (λ h. let e = length-take-le plate_front w (omega arith) in
    input-long g (take plate_front w) (omega arith) ∙ sym (input-long g w (omega arith)))
    (λ h. ap (input_text g) (take_all plate_front w (omega arith)))

loaded-front : (b : Loading) (y : ℕ) (w : List ℕ) → loaded_text b y (take plate_front w) ≡ loaded_text b y w
unfolding loaded_text
loaded-front b y w = go b.answer
  where
    go : (a : LoadAnswer) → loaded_text (record { answer = a; grammar = b.grammar }) y (take plate_front w)
        ≡ loaded_text (record { answer = a; grammar = b.grammar }) y w
    go (refused_at n at) = refl
    go loaded = input-front (dated b.grammar y) w

-- ---- the year

year-front : (file : List ℕ) → year_in (take year_front file) ≡ year_in file
unfolding year_in
year-front [] = refl
year-front (low ∷ []) = refl
year-front (low ∷ high ∷ []) = refl
year-front (low ∷ high ∷ other ∷ rest) = refl

-- THE TEXT IS THAT OF THE FRONTS
pub text-front : (book file w : List ℕ)
    → text_of (take book_front book) (take year_front file) (take plate_front w) ≡ text_of book file w
unfolding text_of
text-front book file w =
    ap₂ (λ (b : Loading) (y : ℕ). loaded_text b y (take plate_front w)) (load-front book) (year-front file)
    ∙ loaded-front (load_of book) (year_in file) w
