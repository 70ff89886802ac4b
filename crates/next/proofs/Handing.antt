-- What `next` hands out with the tables of an input. Assumes nothing.
use Prim.Native.Nat.{ℕ, ◌≤◌}
use mathlib.Core.Bool.{true}
use mathlib.Core.List.{List}
use mathlib.Core.Path.{◌≡◌, refl}
use lib.ListN.{length}
use Rattle.sizes.specs.Sizes.{max_rules, output_size}
use Rattle.cfg.specs.Listing.{L}
use Rattle.tree_first.specs.Descend.{InputGiven}
use Rattle.packed.specs.Packed.{cfg_in}
use Rattle.results.specs.Answer.{Answer, Handing}
use Rattle.results.specs.Check.{listed}
use Rattle.results.proofs.Demand3.Rows.{listed-member}
use Rattle.results.proofs.Demand3.Listed.{reading-short}
use Rattle.first_made.specs.Written.{enumeration_of}
use Rattle.next_made.specs.Made.{next_tree, NextMade}

-- ---- the tables of an input are right for it

pub made-tree : (p w : List ℕ) (s rules : ℕ) (fits chart tables offered out₀ out : List ℕ) (a : Answer Handing)
    → (rules ≤ max_rules) × InputGiven p rules fits chart tables w → listed offered (L (cfg_in s p) w) ≡ true
    → NextMade p rules fits chart tables s (length w) offered out₀ out a
    → enumeration_of a chart out ≡ next_tree (cfg_in s p) w offered chart out₀
made-tree p w s rules fits chart tables offered out₀ out a (few, given) is M =
    M.exact w refl given (listed-member offered (L (cfg_in s p) w) is)

-- a derivation has at most 1,024 numbers
pub offered-short : (p w : List ℕ) (s : ℕ) (offered : List ℕ) → listed offered (L (cfg_in s p) w) ≡ true → length offered ≤ output_size
offered-short p w s offered is = reading-short (cfg_in s p) w offered (listed-member offered (L (cfg_in s p) w) is)
