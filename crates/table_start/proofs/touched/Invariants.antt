-- The loop's invariant of `table_start::touched`: the places passed have no nonterminal of the cell. Assumes nothing.
use Rattle.std.proofs.Common.{ℕ, ◌<◌, ◌≡◌, true, false}
use Rattle.sets.specs.Set.{has}
use Rattle.packed.specs.Packed.{is_nonterminal_in, value_in}
use Rattle.table_start.proofs.touched.Given as goal

abbrev pub invariant-loop-q : goal.invariant-loop-q
invariant-loop-q l = (q : ℕ) → q < l.q → is_nonterminal_in l.p l.r q ≡ true → has (value_in l.p l.r q) l.cell ≡ false
