-- `fill_sets::list::list_word` meets its contract. The loop's invariant: the members taken out of the word are listed.
-- The measure is what is left of the word. Assumes nothing.
use borrow.Author.Rules.{rules}
use native.Mathlib.Omega.{arith}
use Rattle.fill_sets.proofs.Words.{listing, ListedTo, to_start, to-rule, to_room, first_below, first_member, to_step, to-done}
use Rattle.fill_sets.proofs.Words.{rest-less}
use Rattle.fill_sets.proofs.list.list_word.Statement.{statement}
use Rattle.fill_sets.proofs.list.list_word.Tie as tie

abbrev invariant-loop : tie.invariant-loop-rest
invariant-loop base word list₀ count s₀ n₀ rest₀ list s n rest = ListedTo base word (listing s₀ n₀) list₀ rest s n list

abbrev decreases-loop : tie.decreases-loop-rest
decreases-loop base word list₀ count s₀ n₀ rest₀ list s n rest = rest

loop-holds : tie.Need-loop-rest-init invariant-loop decreases-loop
loop-holds c = search to_start

add-list : tie.Need-overflow_add-list invariant-loop decreases-loop
add-list c = omega arith

mul-list : tie.Need-offset_bounds-list-n invariant-loop decreases-loop
mul-list c = omega arith

element-write-list : tie.Need-bounds-list-n invariant-loop decreases-loop
element-write-list c = search to_room

add-n : tie.Need-overflow_add-n invariant-loop decreases-loop
add-n c = omega arith

add-with : tie.Need-overflow_add-base invariant-loop decreases-loop
add-with c = omega arith

with-requires : tie.Need-with-s-requires invariant-loop decreases-loop
with-requires c κs = search to-rule

without-requires : tie.Need-without-rest-requires invariant-loop decreases-loop
without-requires c κs = (search first_below, search first_member)

loop-less : tie.Need-loop-rest-smaller invariant-loop decreases-loop
loop-less c = search rest-less

loop-again : tie.Need-loop-rest-preserved invariant-loop decreases-loop
loop-again c = search to_step

returns : tie.Need-returns invariant-loop decreases-loop
returns c = search to-done

pub list_word_spec : {M : Type 1} → statement M
list_word_spec = tie.close (tie.spec invariant-loop decreases-loop loop-holds (λ c κs. search rules) add-list mul-list element-write-list
    add-n add-with with-requires without-requires loop-less loop-again returns)
