-- Rows of document 01's drawer beyond the starred table: what next answers, and the pair of 512 and 513 parts. Each is proved by computing
-- it. Assumes nothing.
use Prim.Native.Nat.{ℕ}
use mathlib.Core.Bool.{Bool, true, false}
use mathlib.Core.List.{List, [], ◌∷◌}
use mathlib.Core.Path.{◌≡◌, refl}
use lib.ListN.{take, replicate}
use Rattle.sizes.specs.Sizes.{cells, output_size}
use Rattle.results.specs.Answer.{Answer, refused, answered, Handing, handed, nothing, counted}
use Rattle.results.specs.Recognize.{open_of, take_of}
use Rattle.results.specs.Enumerate.{next_of}
use Rattle.results.specs.Drawer.{T, bush, new_rule, nonterminal_place, close, As}
use Rattle.results.specs.Starred.{dated_from, outcome}
use Rattle.results.proofs.Computing.{computing}

-- what next answers for T and `A`, offered a row, with what it hands out
unfoldable pub next_on : List ℕ → Answer Handing × List ℕ
next_on offered =
    let r = next_of (dated_from T) (As 1) offered (replicate cells 7) (replicate output_size 9) in
    (r.answer, take 7 r.output)

-- after the first comes the second, after that none; a row that is no derivation is refused
pub next-holds : (next_on (1 ∷ 0 ∷ 0 ∷ 1 ∷ 1 ∷ 2 ∷ []) ≡ (answered (handed 3), 1 ∷ 0 ∷ 1 ∷ 2 ∷ 0 ∷ 1 ∷ 9 ∷ []))
    × (next_on (1 ∷ 0 ∷ 1 ∷ 2 ∷ 0 ∷ 1 ∷ []) ≡ (answered nothing, replicate 7 9)) × (next_on [] ≡ (refused 12, replicate 7 9))
unfolding next_on computing
next-holds = (refl, refl, refl)

-- the bush of 512 nodes has one derivation
pub limit-met : ((outcome (bush 0 close) (As 1)).first ≡ answered (handed 512))
    × ((outcome (bush 0 close) (As 1)).count ≡ answered (counted 1))
unfolding computing
limit-met = (refl, refl)

-- with one more node above it, the bush has trees, but no derivation
abbrev pub larger : List ℕ
larger = bush 4 (new_rule 4 (nonterminal_place 0 close))

pub limit-passed : ((outcome larger (As 1)).first ≡ refused 13) × ((outcome larger (As 1)).count ≡ refused 13)
    × ((outcome larger (As 1)).list ≡ [])
unfolding computing
limit-passed = (refl, refl, refl)

-- the answers of opening with a book and of taking one byte
unfoldable pub recognized : List ℕ → ℕ → Answer Bool × Answer Bool
recognized bytes m =
    let g = dated_from bytes in
    let o = open_of g (replicate cells 7) in
    (o.answer, (take_of g.grammar o.state m o.chart).answer)

-- the larger one is complete all the same
pub limit-complete : recognized larger 0x41 ≡ (answered false, answered true)
unfolding recognized computing
limit-complete = refl
