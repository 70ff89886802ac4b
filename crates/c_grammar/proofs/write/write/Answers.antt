-- The loop writes each rule in turn, after the first three numbers. Assumes nothing.
use Rattle.std.proofs.Common.{ℕ, arith, refl, length-set, replicate}
use Rattle.std.proofs.lemmas.List.{length-replicate}
use Rattle.grammar.proofs.Declared.{rules-long}
use Rattle.c_grammar.specs.Flat.{flat_size}
use Rattle.c_grammar.proofs.Written.{written_start, written_step, grammar-done}
use Rattle.c_grammar.proofs.write.write.Goals as goal

pub loop-r-init : goal.loop-r-init
loop-r-init c = written_start _ _ _ _ _ _ (rules-long c.args.g _ c.well_formed.0) (simp (length-set, length-replicate) refl)

pub loop-r-preserved : goal.loop-r-preserved
loop-r-preserved c = search written_step

pub returns : goal.returns
returns c =
    grammar-done _ (replicate flat_size 0) _ _ _ (length-replicate {A = ℕ} flat_size 0) (omega arith) c.saturate.ensures c.loop-r.invariant
