-- What filling and writing require, once checks 8 to 11 are passed. Assumes nothing.
use Rattle.std.proofs.Common.{ℕ, ◌≤◌, Ok}
use Rattle.sizes.specs.Sizes.{output_size}
use Rattle.grammar.specs.declared.Grammar.{Grammar}
use Rattle.fill_input.specs.Judging.{Judging, passed, JudgingOutput, all_passed, Fillable}

-- checks 8, 9 and 10
pub judged-ready : {g : Grammar} {n m : ℕ} {u : Unit {0}} → Judging g n m (Ok u) → Fillable g n m
judged-ready (passed v b l) = (v, b, l)

-- and check 11
pub output-ready : {g : Grammar} {n m k : ℕ} {u : Unit {0}} → JudgingOutput g n m k (Ok u) → Fillable g n m × (output_size ≤ k)
output-ready (all_passed p l) = (judged-ready p, l)
