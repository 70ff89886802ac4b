-- The other side of demand 3: a list of calls as they are made, each with a chart and an output of its own, and what first, next and count
-- say to the caller by their definitions. The caller keeps a copy of the derivation handed out last. Assumes nothing.
use Rattle.std.specs.Prelude.{ℕ, ◌*◌, ◌≤◌, List, [], ◌∷◌, length, take}
use Rattle.sizes.specs.Sizes.{cells, output_size}
use Rattle.cfg.specs.Grammar.{Cfg}
use Rattle.cfg.specs.Derivation.{Derivation, limit}
use Rattle.grammar.specs.View.{Dated}
use Rattle.results.specs.Walk.{Call, Said, hands_out, no_derivation, none_left, refuses, counts}
use Rattle.results.specs.Walk as Walk
use Rattle.results.specs.Answer.{Answer, refused, answered, Handing, handed, nothing, Figure, counted, more}
use Rattle.results.specs.Enumerate.{first_in, next_in, count_in, first_of, next_of, count_of}

-- a call with what is lent to it: chart and output; a next that is not offered the copy also has the row that it is offered
pub data Made : Type 0 where
  first : List ℕ → List ℕ → Made
  next_copy : List ℕ → List ℕ → Made
  next_other : List ℕ → List ℕ → List ℕ → Made
  count : List ℕ → Made

-- which of the four calls it is
abbrev pub which : Made → Call
which (first chart out) = Walk.first
which (next_copy chart out) = Walk.next_copy
which (next_other e chart out) = Walk.next_other
which (count chart) = Walk.count

-- chart and output are long enough, and may hold anything; a row that is offered in place of the copy is no derivation of the input
abbrev pub Allowed : Cfg → List ℕ → Made → Type 0
Allowed G w (first chart out) = (cells ≤ length chart) × (output_size ≤ length out)
Allowed G w (next_copy chart out) = (cells ≤ length chart) × (output_size ≤ length out)
Allowed G w (next_other e chart out) = (cells ≤ length chart) × (output_size ≤ length out) × (Derivation G limit w e → ⊥)
Allowed G w (count chart) = cells ≤ length chart

-- every call of the list is allowed
abbrev pub AllAllowed : Cfg → List ℕ → List Made → Type 0
AllAllowed G w [] = Unit {0}
AllAllowed G w (m ∷ calls) = Allowed G w m × AllAllowed G w calls

-- what first and next say to the caller: a derivation handed out is the front of the output, and has twice as many numbers as nodes are
-- answered; `otherwise` is what the call says if it answers that there is none
unfoldable pub said_of : Said → Answer Handing → List ℕ → Said
said_of otherwise (refused n) out = refuses n
said_of otherwise (answered (handed n)) out = hands_out n (take (2 * n) out)
said_of otherwise (answered nothing) out = otherwise

-- what count says to the caller
unfoldable pub count_said : Answer Figure → Said
count_said (refused n) = refuses n
count_said (answered (counted n)) = counts n
count_said (answered more) = Walk.more

-- what one call says for the grammar G; the copy is what was handed out last
unfoldable pub says_in : Cfg → List ℕ → List ℕ → Made → Said
says_in G w copy (first chart out) = let r = first_in G w chart out in said_of no_derivation r.answer r.output
says_in G w copy (next_copy chart out) = let r = next_in G w copy chart out in said_of none_left r.answer r.output
says_in G w copy (next_other e chart out) = let r = next_in G w e chart out in said_of none_left r.answer r.output
says_in G w copy (count chart) = count_said (count_in G w chart).answer

-- what one call says, its checks included
unfoldable pub says : Dated → List ℕ → List ℕ → Made → Said
says g w copy (first chart out) = let r = first_of g w chart out in said_of no_derivation r.answer r.output
says g w copy (next_copy chart out) = let r = next_of g w copy chart out in said_of none_left r.answer r.output
says g w copy (next_other e chart out) = let r = next_of g w e chart out in said_of none_left r.answer r.output
says g w copy (count chart) = count_said (count_of g w chart).answer

-- the copy after a call: the derivation that was handed out, if one was
unfoldable pub copied : Said → List ℕ → List ℕ
copied (hands_out n e) copy = e
copied no_derivation copy = copy
copied none_left copy = copy
copied (refuses n) copy = copy
copied (counts n) copy = copy
copied Walk.more copy = copy

-- what a list of calls says for the grammar G
unfoldable pub history_in : Cfg → List ℕ → List ℕ → List Made → List Said
history_in G w copy [] = []
history_in G w copy (m ∷ calls) = says_in G w copy m ∷ history_in G w (copied (says_in G w copy m) copy) calls

-- what a list of calls says
unfoldable pub history : Dated → List ℕ → List ℕ → List Made → List Said
history g w copy [] = []
history g w copy (m ∷ calls) = says g w copy m ∷ history g w (copied (says g w copy m) copy) calls
