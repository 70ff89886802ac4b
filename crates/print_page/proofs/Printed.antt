-- All pages, one after the other, are the text that was ahead, and there are no more of them than steps. Assumes nothing.
use Prim.Native.Nat.{ℕ, suc, ◌+◌, ◌≤◌}
use native.Mathlib.Omega.{arith}
use mathlib.Core.List.{List, [], ◌∷◌, ◌++◌, flatten, append_assoc, append-nil}
use mathlib.Core.Path.{◌≡◌, refl, sym, ap, ◌∙◌}
use lib.IntN.{ℤ}
use lib.ListN.{length, take, length-append}
use Rattle.sizes.specs.Sizes.{most}
use Rattle.check_length.specs.Measure.{lengths_in}
use Rattle.text.specs.Front.{book_front, year_front, plate_front}
use Rattle.text.specs.Text.{text_of}
use Rattle.text.proofs.Front.{text-front}
use Rattle.print_begin.specs.declared.Due.{Due}
use Rattle.print_begin.specs.declared.Due.TheVariants.{Nothing}
use Rattle.print_begin.specs.Due.{Ahead, DueSized, steps_left}
use Rattle.print_begin.specs.Begun.{BookBegun}
use Rattle.print_page.specs.Page.{Rest}
use Rattle.print_page.specs.Pages.{Pages, empty, further}
use Rattle.print_page.proofs.Paging.{some_left, few-left}

pub flatten-snoc : (l : List (List ℕ)) (x : List ℕ) → flatten (l ++ (x ∷ [])) ≡ flatten l ++ x
unfolding flatten
flatten-snoc [] x = append-nil x
flatten-snoc (y ∷ l) x = ap (λ (z : List ℕ). y ++ z) (flatten-snoc l x) ∙ sym (append_assoc y (flatten l) x)

module _ (lengths : ℕ → ℤ) (p fits chart tables : List ℕ) (d₀ : Due) (buf₀ : List ℕ) where
  -- the pages so far are the front of the text that was ahead
  pub pages-front : {pages : List (List ℕ)} {d : Due} {buf : List ℕ} → Pages lengths p fits chart tables d₀ buf₀ pages d buf
      → (lines : List (List ℕ)) → Ahead lengths p fits chart tables buf₀ d₀ lines
      → Rest lengths p fits chart tables buf d lines (flatten pages)
  unfolding flatten
  pages-front empty lines a = record { left = lines; ahead = a; text = refl }
  pages-front (further {pages} {out} {r} R some P) lines a =
      let before = pages-front R lines a in
      let after = P.printed before.left before.ahead in
      record {
        left = after.left;
        ahead = after.ahead;
        text = before.text ∙ ap (λ (x : List ℕ). flatten pages ++ x) after.text
            ∙ sym (append_assoc (flatten pages) (take r out) (flatten after.left))
            ∙ ap (λ (x : List ℕ). x ++ flatten after.left) (sym (flatten-snoc pages (take r out)));
      }

  -- each page takes at least one step
  pub pages-steps : {pages : List (List ℕ)} {d : Due} {buf : List ℕ} → DueSized d₀ → Pages lengths p fits chart tables d₀ buf₀ pages d buf
      → (length pages + steps_left d ≤ steps_left d₀) × DueSized d
  pages-steps sized empty = (omega arith, sized)
  pages-steps sized (further {pages} {d} {out} {r} R some P) =
      let before = pages-steps sized R in
      (omega (arith, before.0, some_left d before.1 some, P.fewer, length-append pages (take r out ∷ [])), P.sized)

  -- if nothing is due after them, the pages are the whole text
  pub pages-whole : (pages : List (List ℕ)) (buf : List ℕ) → Pages lengths p fits chart tables d₀ buf₀ pages Nothing buf
      → (lines : List (List ℕ)) → Ahead lengths p fits chart tables buf₀ d₀ lines → flatten pages ≡ flatten lines
  unfolding flatten
  pages-whole pages buf R lines a =
      let P = pages-front R lines a in
      sym (P.text ∙ ap (λ (x : List (List ℕ)). flatten pages ++ flatten x) P.ahead ∙ append-nil (flatten pages))

-- the pages are the text of book, file with the year and plate, although only their fronts were read, and there are few pages
module _ (book file w p : List ℕ) (lengths : List ℤ) (chart₀ chart fits tables buf₀ buf last : List ℕ) (d : Due)
    (B : BookBegun (take book_front book) (take year_front file) (take plate_front w) p lengths chart₀ chart fits tables buf₀ buf d)
    (pages : List (List ℕ)) (R : Pages (lengths_in lengths) p fits chart tables d buf pages Nothing last) where
  pub pages-text : flatten pages ≡ flatten (text_of book file w)
  pages-text =
      pages-whole (lengths_in lengths) p fits chart tables d buf pages last R
      (text_of (take book_front book) (take year_front file) (take plate_front w)) B.ahead
      ∙ ap flatten (text-front book file w)

  pub pages-few : length pages ≤ suc most
  pages-few = omega (arith, (pages-steps (lengths_in lengths) p fits chart tables d buf B.sized R).0, few-left d)
