-- The least cost at a terminal place and after the last place, by the tests that the code makes. Assumes nothing.
use Prim.Native.Nat.{ℕ, ◌+◌, ◌≤◌, ◌<◌}
use mathlib.Core.Bool.{Bool, true, false}
use mathlib.Core.List.{List}
use mathlib.Core.Path.{◌≡◌, sym, ◌∙◌}
use native.Mathlib.Numerals.{add-one}
use native.Mathlib.Omega.{arith}
use lib.ListN.{get_or}
use Rattle.sizes.specs.Sizes.{too_many}
use Rattle.theory_costs.proofs.Cut.{leastcut-end, leastcut-end-short, leastcut-leaf, leastcut-misfit, leastcut-no-byte}
use Rattle.table_cut.specs.Suffix.{AtTerminal, AtEnd}

module _ (fits : Bool) (a b : ℕ) (rests : List ℕ) (at : ℕ) where
  pub terminal-fits : a < b → fits ≡ true → AtTerminal fits a b rests at (get_or rests (at + (a + 1)) 0)
  terminal-fits l e = record {
    exact = λ fit cost t places f L. leastcut-leaf l (sym (f l) ∙ e) (rw add-one (L l));
  }

  pub terminal-misfit : a < b → fits ≡ false → AtTerminal fits a b rests at too_many
  terminal-misfit l e = record { exact = λ fit cost t places f L. leastcut-misfit (sym (f l) ∙ e) }

  pub terminal-no-byte : b ≤ a → AtTerminal fits a b rests at too_many
  terminal-no-byte l = record { exact = λ fit cost t places f L. leastcut-no-byte l }

module _ (a b : ℕ) where
  pub end_short : a < b → AtEnd a b too_many
  end_short l = record { exact = λ fit cost. leastcut-end-short l }

  pub end-there : a ≤ b → b ≤ a → AtEnd a b 0
  end-there l m = let e : a ≡ b = omega arith in rw e (record { exact = λ fit cost. leastcut-end })
