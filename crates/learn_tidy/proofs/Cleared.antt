-- How long the list of rules of a valid grammar is, and that of the tidied one. Assumes nothing.
use Prim.Native.Nat.{◌≤◌}
use native.Mathlib.Omega.{arith}
use mathlib.Core.Bool.{true}
use mathlib.Core.Path.{◌≡◌}
use lib.ListN.{length}
use Rattle.sizes.specs.Sizes.{max_rules}
use Rattle.grammar.specs.declared.Grammar.{Grammar}
use Rattle.grammar.specs.Valid.{valid_grammar}
use Rattle.grammar.proofs.Bounds.{valid-count}
use Rattle.theory_tidying.specs.Tidying.{tidied}
use Rattle.theory_tidying.proofs.Tidied.{tidied-size}

module _ (g : Grammar) (long : length g.rules ≡ max_rules) (valid : valid_grammar g ≡ true) where
  pub all_there : g.count ≤ length g.rules
  all_there = omega (arith, valid-count g valid)

  pub as_long : length (tidied g).rules ≡ max_rules
  as_long = tidied-size g all_there (valid-count g valid)
