-- The text has at least one line and at most 4,097. Assumes nothing.
use Prim.Native.Nat.{ℕ, suc, ◌+◌, ◌≤◌, ◌<◌, min}
use native.Mathlib.Omega.{arith}
use mathlib.Core.List.{List, [], ◌∷◌}
use mathlib.Core.Path.{◌≡◌, refl, ap, ◌∙◌}
use lib.IntN.{ℤ}
use lib.ListN.{length, take, length-append, length-take}
use Rattle.sizes.specs.Sizes.{most}
use Rattle.cfg.specs.Listing.{L}
use Rattle.grammar.specs.View.{Dated, dated, grammar_of, lengths_of}
use Rattle.results.specs.Answer.{LoadAnswer, refused_at, loaded}
use Rattle.results.specs.Load.{load_of}
use Rattle.results.specs.Enumerate.{figure}
use Rattle.results.proofs.Decide.{decide-either}
use Rattle.text.specs.Line.{readings_line, refused_line}
use Rattle.text.specs.Text.{lines_from, list_text, empty_text, text_by, input_text, loaded_text, year_in, text_of}

-- how many lines a text has
pub record Lines (text : List (List ℕ)) : Type 0 where
  pub some : 0 < length text
  pub few : length text ≤ suc most

one_line : (l : List ℕ) → Lines (l ∷ [])
one_line l = record { some = omega arith; few = omega arith }

-- a line for each derivation
lines-length : (lengths : ℕ → ℤ) (place : ℕ) (l : List (List ℕ)) → length (lines_from lengths place l) ≡ length l
unfolding lines_from
lines-length lengths place [] = refl
lines-length lengths place (e ∷ l) = ap suc (lines-length lengths (suc place) l)

-- one more line for how many there are
list_length : (lengths : ℕ → ℤ) (l : List (List ℕ)) → length (list_text lengths l) ≡ min most (length l) + 1
unfolding list_text
list_length lengths l =
    length-append (lines_from lengths 1 (take most l)) (readings_line (figure (length l)) ∷ [])
    ∙ ap (λ (n : ℕ). n + 1) (lines-length lengths 1 (take most l) ∙ length-take most l)

list-lines : (lengths : ℕ → ℤ) (l : List (List ℕ)) → Lines (list_text lengths l)
list-lines lengths l = let e = list_length lengths l in record { some = omega arith; few = omega arith }

by_lines : (lengths : ℕ → ℤ) (empty l : List (List ℕ)) → Lines empty → Lines (text_by lengths empty l)
unfolding text_by
by_lines lengths empty [] H = H
by_lines lengths empty (e ∷ l) H = list-lines lengths (e ∷ l)

input-lines : (g : Dated) (w : List ℕ) → Lines (input_text g w)
unfolding input_text empty_text
input-lines g w =
    decide-either _ _ Lines _ (λ n. one_line (refused_line n))
    (λ p. by_lines (lengths_of g.grammar) _ (L (grammar_of g) w) (one_line _))

text-sized : (book file w : List ℕ) → Lines (text_of book file w)
unfolding text_of loaded_text
text-sized book file w = go (load_of book).answer
  where
    go : (a : LoadAnswer)
        → Lines (elim a [ refused_at n at ↦ refused_line n ∷ [] | loaded ↦ input_text (dated (load_of book).grammar (year_in file)) w ])
    go (refused_at n at) = one_line (refused_line n)
    go loaded = input-lines (dated (load_of book).grammar (year_in file)) w

pub text-lines : (book file w : List ℕ) → length (text_of book file w) ≤ suc most
text-lines book file w = (text-sized book file w).few

pub text-some : (book file w : List ℕ) → 0 < length (text_of book file w)
text-some book file w = (text-sized book file w).some
