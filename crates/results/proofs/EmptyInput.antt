-- Rows for the input of no bytes beyond the table of the requests: the pair of 512 and 513 nodes, next, and builds. Each is proved by
-- computing it. Assumes nothing.
use Prim.Native.Nat.{ℕ}
use mathlib.Core.Bool.{true}
use mathlib.Core.List.{List, [], ◌∷◌, map}
use mathlib.Core.Path.{◌≡◌, refl}
use lib.ListN.{replicate}
use Rattle.sizes.specs.Sizes.{cells, output_size}
use Rattle.results.specs.Answer.{Answer, refused, answered, Handing, handed, nothing, counted}
use Rattle.results.specs.Recognize.{open_of}
use Rattle.results.specs.Enumerate.{next_of}
use Rattle.results.specs.Drawer.{T, branches, start, new_rule, nonterminal_place, close}
use Rattle.results.specs.Requests.{empty_twins, empty_twins_list}
use Rattle.results.specs.Starred.{dated_from, outcome}
use Rattle.results.proofs.Computing.{computing}
use Rattle.results.proofs.Extra.{build}

-- 0 → seven of 1, 1 → eight of 2, 2 → eight of 3, 3 → nothing: one derivation, of 512 nodes
abbrev pub empty_bush : List ℕ
empty_bush = start 0 (new_rule 0 (branches close))

pub limit-met : ((outcome empty_bush []).first ≡ answered (handed 512)) × ((outcome empty_bush []).count ≡ answered (counted 1))
unfolding computing
limit-met = (refl, refl)

-- with start 4 and 4 → 0, all trees are larger
abbrev pub empty_larger : List ℕ
empty_larger = start 4 (new_rule 0 (branches (new_rule 4 (nonterminal_place 0 close))))

pub limit-passed : ((outcome empty_larger []).first ≡ refused 13) × ((outcome empty_larger []).count ≡ refused 13)
    × ((outcome empty_larger []).list ≡ [])
unfolding computing
limit-passed = (refl, refl, refl)

-- opening says complete all the same
pub limit-complete : (open_of (dated_from empty_larger) (replicate cells 7)).answer ≡ answered true
unfolding computing
limit-complete = refl

-- what next answers for T, offered a row
unfoldable pub next_on : List ℕ → Answer Handing
next_on offered = (next_of (dated_from T) [] offered (replicate cells 7) (replicate output_size 9)).answer

-- after the only derivation comes none; the row of no numbers is no derivation, since each tree has a node
pub next-holds : (next_on (0 ∷ 0 ∷ 0 ∷ 1 ∷ 0 ∷ 1 ∷ []) ≡ answered nothing) × (next_on [] ≡ refused 12)
unfolding next_on computing
next-holds = (refl, refl)

-- no node covers anything, so any two derivations are one build
pub one-build : map (λ a. map (build empty_twins [] a) empty_twins_list) empty_twins_list ≡ replicate 4 (replicate 4 (answered true))
unfolding build computing
one-build = refl
