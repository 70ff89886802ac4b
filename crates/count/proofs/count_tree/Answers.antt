-- `count::count_tree` meets its contract: the tables are made for the input, so the derivations counted with them are those of the input.
-- Assumes nothing.
use Rattle.std.proofs.Common.{ℕ, rules, arith}
use Rattle.std.proofs.Math.ListN.{length-replicate}
use Rattle.table_layout.specs.Layout.{tables_size}
use Rattle.count.proofs.count_tree.Goals as goal

pub build-rules-requires : goal.build-rules-requires
build-rules-requires c = (omega arith, omega arith, length-replicate {A = ℕ} tables_size 0, search rules, search rules)
