-- `fill_words::ends::put_members` meets its contract. The loop's invariant: the members taken out of the word are done.
-- The measure is what is left of the word. Assumes nothing.
use borrow.Author.Rules.{rules}
use native.Mathlib.Omega.{arith}
use Rattle.fill_words.proofs.Putting.{PutTo, put-start, put_step, put-done, rest-less}
use Rattle.fill_words.proofs.ends.put_members.Statement.{statement}
use Rattle.fill_words.proofs.ends.put_members.Tie as tie

abbrev invariant-loop : tie.invariant-loop-rest
invariant-loop i b word ends₀ rest₀ ends rest = PutTo i b word ends₀ rest ends

abbrev decreases-loop : tie.decreases-loop-rest
decreases-loop i b word ends₀ rest₀ ends rest = rest

pub put_members_spec : {M : Type 1} → statement M
put_members_spec = tie.close (tie.spec
    invariant-loop decreases-loop (λ c. search put-start) (λ c κs. omega arith)
    -- the word of the lowest member is read, and stored with b
    (λ c. omega arith) (λ c. omega arith) (λ c. omega arith) (λ c. omega arith) (λ c κs. omega arith) (λ c. omega arith)
    (λ c. omega arith) (λ c. omega arith) (λ c. omega arith)
    -- the next member, and the end
    (λ c κs. search rules) (λ c. search rest-less) (λ c. search put_step) (λ c. search put-done))
