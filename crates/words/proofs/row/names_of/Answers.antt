-- `words::row::names_of` meets its contract: the names are written one after the other. Assumes nothing.
use Rattle.std.proofs.Common.{arith}
use Rattle.grammar.proofs.Declared.{rules-long}
use Rattle.words.proofs.NameRow.{names-next, names-done}
use Rattle.words.proofs.row.names_of.Goals as goal

pub loop-rule-preserved : goal.loop-rule-preserved
loop-rule-preserved c =
    let long = rules-long c.args.g _ c.well_formed.0 in
    names-next _ _ _ _ c.loop-rule.invariant _ _ (omega arith) c.put_name-at.ensures

pub returns : goal.returns
returns c = let long = rules-long c.args.g _ c.well_formed.0 in names-done _ _ _ _ c.loop-rule.invariant long (omega arith)
