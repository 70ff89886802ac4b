-- What the caller of a C function knows from the code and what is left. Assumes nothing.
use Prim.Native.Nat.{ℕ, zero, suc, ◌<◌}
use native.Mathlib.Omega.{arith}
use mathlib.Core.Bool.{Bool, true, false}
use mathlib.Core.Path.{◌≡◌, refl, sym, ap, ap₂, ◌∙◌}
use Rattle.results.specs.Answer.{Answer, refused, answered, Handing, handed, nothing, Figure, counted, more, LoadAnswer, refused_at, loaded}
use Rattle.c_answer.specs.Code.{code_of, left_of, verdict_code, length_code, tenths_left, handing_code, nodes_left, figure_code, figure_left}
use Rattle.c_answer.specs.Code.{words_code, bytes_left, load_code, offset_left, CodeKnown}

module _ {A B : Type 0} (code : A → ℕ) (left : A → B → B) (read : ℕ → B → A) where
  -- the code of an answer is below those of refusals, and `read` gives the answer back from its code and what it left
  record Tells (a : A) (found : B) : Type 0 where
    pub small : code a < 256
    pub back : read (code a) (left a found) ≡ a
    pub kept : (code a ≡ 1 → ⊥) → left a found ≡ found

  module _ (tells : (a : A) (found : B) → Tells a found) where
    apart : (x y : Answer A) (found : B) → code_of code x ≡ code_of code y → left_of left x found ≡ left_of left y found → x ≡ y
    apart (refused m) (refused n) found e t = ap refused (omega arith)
    apart (refused m) (answered b) found e t = absurd (omega (arith, (tells b found).small))
    apart (answered a) (refused n) found e t = absurd (omega (arith, (tells a found).small))
    apart (answered a) (answered b) found e t = ap answered (sym (tells a found).back ∙ ap₂ read e t ∙ (tells b found).back)

    kept : (x : Answer A) (found : B) → (code_of code x ≡ 1 → ⊥) → left_of left x found ≡ found
    kept (refused n) found h = refl
    kept (answered a) found h = (tells a found).kept h

    known : CodeKnown code left
    known = record { apart = apart; kept = kept }

-- ---- opening, taking, check and same build: the code alone tells the answers apart

abbrev verdict_in : ℕ → Unit {0} → Bool
verdict_in zero u = false
verdict_in (suc n) u = true

verdict-tells : (b : Bool) (u : Unit {0}) → Tells verdict_code (λ _ v. v) verdict_in b u
verdict-tells true u = record { small = omega arith; back = refl; kept = λ h. refl }
verdict-tells false u = record { small = omega arith; back = refl; kept = λ h. refl }

pub verdict-apart : (x y : Answer Bool) → code_of verdict_code x ≡ code_of verdict_code y → x ≡ y
verdict-apart x y e = apart verdict_code (λ _ v. v) verdict_in verdict-tells x y tt e refl

-- ---- length

pub length-known : CodeKnown length_code tenths_left
length-known = known length_code tenths_left (λ _ z. z) (λ z found. record { small = omega arith; back = refl; kept = λ h. absurd (h refl) })

-- ---- words

pub words-known : CodeKnown words_code bytes_left
words-known = known words_code bytes_left (λ _ n. n) (λ n found. record { small = omega arith; back = refl; kept = λ h. absurd (h refl) })

-- ---- first and next

abbrev handing_in : ℕ → ℕ → Handing
handing_in zero n = nothing
handing_in (suc k) n = handed n

pub handing-known : CodeKnown handing_code nodes_left
handing-known = known handing_code nodes_left handing_in tells
  where
    tells : (h : Handing) (found : ℕ) → Tells handing_code nodes_left handing_in h found
    tells (handed n) found = record { small = omega arith; back = refl; kept = λ h. absurd (h refl) }
    tells nothing found = record { small = omega arith; back = refl; kept = λ h. refl }

-- ---- count

abbrev figure_in : ℕ → ℕ → Figure
figure_in zero n = more
figure_in (suc zero) n = counted n
figure_in (suc (suc k)) n = more

pub figure-known : CodeKnown figure_code figure_left
figure-known = known figure_code figure_left figure_in tells
  where
    tells : (f : Figure) (found : ℕ) → Tells figure_code figure_left figure_in f found
    tells (counted n) found = record { small = omega arith; back = refl; kept = λ h. absurd (h refl) }
    tells more found = record { small = omega arith; back = refl; kept = λ h. refl }

-- ---- loading: the offset is written where the book is refused

pub load_apart : (x y : LoadAnswer) (found : ℕ) → load_code x ≡ load_code y → offset_left x found ≡ offset_left y found → x ≡ y
load_apart (refused_at m i) (refused_at n j) found e o = let k : m ≡ n = omega arith in λ x. refused_at (k x) (o x)
load_apart (refused_at m i) loaded found e o = absurd (omega arith)
load_apart loaded (refused_at n j) found e o = absurd (omega arith)
load_apart loaded loaded found e o = refl

pub load_kept : (x : LoadAnswer) (found : ℕ) → load_code x ≡ 1 → offset_left x found ≡ found
load_kept (refused_at n at) found e = absurd (omega arith)
load_kept loaded found e = refl
