-- `next::next_tree` meets its contract: the tables are made for the input, so the derivation found with them comes after the offered one.
-- Assumes nothing.
use Rattle.std.proofs.Common.{ℕ, rules, arith}
use Rattle.std.proofs.Math.ListN.{length-replicate}
use Rattle.table_layout.specs.Layout.{tables_size}
use Rattle.next.proofs.Handing.{made-tree, offered-short}
use Rattle.next.proofs.next_tree.Goals as goal

pub build-rules-requires : goal.build-rules-requires
build-rules-requires c = (omega arith, omega arith, length-replicate {A = ℕ} tables_size 0, search rules, search rules)

pub next_made-requires : goal.next_made-requires
next_made-requires c = (search (rules, offered-short), omega arith)

pub returns : goal.returns
returns c = search (rules, made-tree)
