-- The starred plates of document 01 together: every line of the table, the inputs without a tree, the empty book and the sums.
-- Assumes nothing.
use mathlib.Core.Path.{refl}
use Rattle.results.specs.Starred.{found_in, absent_in, table, Starred}
use Rattle.results.proofs.Computing.{computing}
use Rattle.results.proofs.NoTree.{no-tree-T-AAA, no-tree-T-B, no-tree-bare}

pub starred : Starred
unfolding computing found_in absent_in table
starred = record {
  lines = refl;
  no_tree_three = no-tree-T-AAA;
  no_tree_other = no-tree-T-B;
  no_tree_rules = no-tree-bare;
  no_bytes = refl;
  sums = (refl, refl, refl, refl, refl);
}
