-- The first derivation is in the buffer, or each tree is too large. Assumes nothing.
use Rattle.std.proofs.Common.{rules}
use Rattle.print_begin.proofs.Opening.{tree-refused, tree-begun}
use Rattle.print_begin.proofs.begin.begin_tree.Goals as goal

pub returns-then-not-exists : goal.returns-then-not-exists
returns-then-not-exists c =
    tree-refused _ _ _ _ _ _ _ c.build-rules.ensures _ c.exists.ensures (search rules) _ c.refused.ensures.due c.refused.ensures.sized _

pub returns : goal.returns
returns c = search (rules, tree-begun)
