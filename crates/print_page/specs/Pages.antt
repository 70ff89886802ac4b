-- The pages of the listing, one after the other. Assumes nothing.
use Rattle.std.specs.Prelude.{ℕ, false, List, [], ◌∷◌, ◌++◌, ◌≡◌, ℤ, take}
use Rattle.print_begin.specs.declared.Due.{Due}
use Rattle.print_page.specs.Page.{is_done, Paged}

-- the pages from what is due first, d₀, up to what is due after them: no page, or one page more while something is due
pub data Pages (lengths : ℕ → ℤ) (p fits chart tables : List ℕ) (d₀ : Due) (buf₀ : List ℕ) : List (List ℕ) → Due → List ℕ → Type 0 where
  empty : Pages lengths p fits chart tables d₀ buf₀ [] d₀ buf₀
  further : {pages : List (List ℕ)} {d t : Due} {buf buf' out₀ out : List ℕ} {r : ℕ}
      → Pages lengths p fits chart tables d₀ buf₀ pages d buf → is_done d ≡ false
      → Paged lengths p fits chart tables d buf buf' out₀ out r t
      → Pages lengths p fits chart tables d₀ buf₀ (pages ++ (take r out ∷ [])) t buf'
