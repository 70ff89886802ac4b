-- The loop over the pages: those handed to the write so far are the front of the text, and as many turns as there may be pages are enough.
-- Assumes nothing.
use Prim.Native.Nat.{ℕ, suc, ◌+◌, ◌*◌, ◌≤◌}
use native.Mathlib.Omega.{arith}
use mathlib.Core.Bool.{Bool, true, false}
use mathlib.Core.List.{List, [], ◌∷◌, ◌++◌, flatten, append_assoc}
use mathlib.Core.Path.{◌≡◌, refl, sym, ap, subst, ◌∙◌}
use lib.IntN.{ℤ}
use lib.ListN.{length, take, length-append, length-take}
use lib.Seq.{length-take-le}
use Rattle.std.specs.Prelude.{Result, Ok, Err, IfOk}
use Rattle.sizes.specs.Sizes.{most}
use Rattle.text.specs.Text.{text_of}
use Rattle.print_begin.specs.declared.Due.{Due}
use Rattle.print_begin.specs.Due.{Ahead, DueSized, steps_left}
use Rattle.print_page.specs.Page.{page_size, is_done, Paged}
use Rattle.print_page.specs.Pages.{Pages, empty, further}
use Rattle.print_page.proofs.Paging.{done_none, some_left, few-left}
use Rattle.print_page.proofs.Printed.{flatten-snoc, pages-front, pages-whole}
use Rattle.print_write.specs.Listed.{Next, Handed, Listed}

-- the bytes of a page
pub part-long : (r : ℕ) (out : List ℕ) → r ≤ length out → r ≡ length (take r out)
part-long r out h = sym (length-take-le r out h)

pub part_small : (r : ℕ) (out₀ out : List ℕ) → length out ≡ length out₀ → length out₀ ≡ page_size → length (take r out) ≤ page_size
part_small r out₀ out e f = omega (arith, length-take r out)

module _ (lengths : ℕ → ℤ) (p fits chart tables : List ℕ) (d₀ : Due) (buf₀ : List ℕ) where
  -- n pages of `bytes` bytes were handed to the write, and d is due then
  pub record Going (d : Due) (buf : List ℕ) (bytes n : ℕ) : Type 0 where
    pub pages : List (List ℕ)
    pub run : Pages lengths p fits chart tables d₀ buf₀ pages d buf
    pub handed : bytes ≡ length (flatten pages)
    pub small : bytes ≤ page_size * n
    pub enough : steps_left d + n ≤ suc most
    pub sized : DueSized d
    pub long : length buf ≡ length buf₀

  pub going-first : DueSized d₀ → Going d₀ buf₀ 0 0
  unfolding flatten
  going-first sized = record {
    pages = [];
    run = empty;
    handed = refl;
    small = omega arith;
    enough = omega (arith, few-left d₀);
    sized = sized;
    long = refl;
  }

  module _ (d : Due) (buf : List ℕ) (bytes n : ℕ) (G : Going d buf bytes n) where
    module _ (some : is_done d ≡ false) (buf' out₀ out : List ℕ) (r : ℕ) (t : Due)
        (P : Paged lengths p fits chart tables d buf buf' out₀ out r t) where
      -- the page has the next bytes of the text
      pub going_next : (book file w : List ℕ) → Ahead lengths p fits chart tables buf₀ d₀ (text_of book file w)
          → Next book file w bytes (take r out)
      going_next book file w a =
          let before = pages-front lengths p fits chart tables d₀ buf₀ G.run (text_of book file w) a in
          let after = P.printed before.left before.ahead in
          record {
            front = flatten G.pages;
            rest = flatten after.left;
            text = before.text ∙ ap (λ (x : List ℕ). flatten G.pages ++ x) after.text
                ∙ sym (append_assoc (flatten G.pages) (take r out) (flatten after.left));
            place = sym G.handed;
          }

      pub going-page : length out ≡ page_size → (after : ℕ) → after ≡ bytes + length (take r out) → Going t buf' after (n + 1)
      going-page size after e =
          let S = some_left d G.sized some in
          let f = G.enough in
          let taken : length (take r out) ≡ r = length-take-le r out P.within in
          record {
            pages = G.pages ++ (take r out ∷ []);
            run = further G.run some P;
            handed = e ∙ ap (λ (x : ℕ). x + length (take r out)) G.handed
                ∙ sym (ap length (flatten-snoc G.pages (take r out)) ∙ length-append (flatten G.pages) (take r out));
            small = omega (arith, G.small, P.within);
            enough = omega (arith, P.fewer, S, f);
            sized = P.sized;
            long = P.long ∙ G.long;
          }

    -- nothing is due
    pub handed-done : is_done d ≡ true → Handed lengths p fits chart tables d₀ buf₀ bytes
    handed-done e = record {
      pages = G.pages;
      last = buf;
      run = subst (λ (y : Due). Pages lengths p fits chart tables d₀ buf₀ G.pages y buf) (done_none d e) G.run;
      bytes = G.handed;
    }

    -- nothing is due after as many pages as there may be
    pub handed-last : suc most ≤ n → Handed lengths p fits chart tables d₀ buf₀ bytes
    handed-last h = go (is_done d) refl
      where
        go : (b : Bool) → is_done d ≡ b → Handed lengths p fits chart tables d₀ buf₀ bytes
        go true f = handed-done f
        go false f = absurd (omega (arith, some_left d G.sized f, G.enough))

-- all pages have as many bytes as the text
pub listed : {E : Type 0} (lengths : ℕ → ℤ) (p fits chart tables : List ℕ) (d : Due) (buf : List ℕ) (book file w : List ℕ) (r : Result ℕ E)
    → IfOk r (λ n. Handed lengths p fits chart tables d buf n) → Ahead lengths p fits chart tables buf d (text_of book file w)
    → IfOk r (λ n. Listed book file w n)
listed lengths p fits chart tables d buf book file w (Ok n) H a = record {
  whole = H.bytes ∙ ap length (pages-whole lengths p fits chart tables d buf H.pages H.last H.run (text_of book file w) a);
}
listed lengths p fits chart tables d buf book file w (Err e) H a = tt
