-- A list of operations on a plate in hand (document 02, U6 and U8), refused ones included, against the plain machine: every reply, and
-- what is held at the end. Assumes nothing.
use Rattle.std.specs.Prelude.{ℕ, ◌+◌, true, false, List, [], ◌∷◌, map, ◌↔◌, ◌≡◌}
use Rattle.std.proofs.Math.Option.{Option, none, some}
use Rattle.cfg.specs.Tree.{HasTree}
use Rattle.theory_points.specs.Machine.{Op, Remaining, begun, Effect, refused_by, remains, moved, remainder, remains_after}
use Rattle.grammar.specs.declared.Grammar.{Grammar}
use Rattle.grammar.specs.View.{dated, grammar_of}
use Rattle.results.specs.Answer.{refused, answered}
use Rattle.results.specs.Recognize.{Recognition, open_of, fed}
use Rattle.theory_points.specs.Operations.{Reply, Ran}

-- whether the bytes that remain have a tree, for the grammar and the year that remain
abbrev pub RemainComplete : Remaining → Type 0
RemainComplete r = HasTree (grammar_of (dated r.grammar r.year)) r.bytes

-- a reply, by what the machine's operation comes to: its refusal with its offset; or yes exactly if what then remains has a tree, and no
-- exactly if not, with offset 0
abbrev pub Replied : Effect → Reply → Type 0
Replied (refused_by n o) reply = (reply.answer ≡ refused n) × (reply.offset ≡ o)
Replied (remains r) reply =
    ((reply.answer ≡ answered true) ↔ RemainComplete r)
    × ((reply.answer ≡ answered false) ↔ (RemainComplete r → ⊥))
    × (reply.offset ≡ 0)

-- the replies of a list of operations, one for each, where the machine begins with r
abbrev pub AllReplied : List Op → Remaining → List Reply → Type 0
AllReplied [] r [] = Unit {0}
AllReplied [] r (reply ∷ replies) = ⊥
AllReplied (op ∷ ops) r [] = ⊥
AllReplied (op ∷ ops) r (reply ∷ replies) = Replied (moved op r) reply × AllReplied ops (remainder (moved op r) r) replies

-- what opening with the grammar that remains, and taking only the bytes that remain, would have left
abbrev pub learnt_again : Grammar → ℕ → List ℕ → List Op → Recognition
learnt_again g y found ops =
    let r = remains_after ops (begun g y) in
    fed r.grammar (open_of (dated r.grammar y) found) r.bytes

-- what opening with g, and taking only the bytes that remain, would have left
abbrev pub taken_again : Grammar → ℕ → List ℕ → List Op → Recognition
taken_again g y found ops = fed g (open_of (dated g y) found) (remains_after ops (begun g y)).bytes

-- a point of the machine, as a state has it
abbrev pub point_number : Option ℕ → ℕ
point_number none = 0
point_number (some n) = n + 1

-- the result r of opening over the chart found and then a list of operations, learning too, with the grammar g in the year y
pub record LearnHistory (g : Grammar) (y : ℕ) (found : List ℕ) (ops : List Op) (r : Ran) : Type 0 where
  -- every reply is what the machine says
  pub replied : AllReplied ops (begun g y) r.replies
  -- at the end bytes, count and chart are those of opening with the grammar that remains and taking only the bytes that remain
  pub bytes : r.held.state.bytes ≡ (learnt_again g y found ops).state.bytes
  pub count : r.held.state.count ≡ (learnt_again g y found ops).state.count
  pub chart : r.held.chart ≡ (learnt_again g y found ops).chart
  -- the points and the grammar are the machine's; the year is kept
  pub points : r.held.state.points ≡ map point_number (remains_after ops (begun g y)).points
  pub grammar : r.held.grammar ≡ (remains_after ops (begun g y)).grammar
  pub year : r.held.state.year ≡ y

-- the same without learning, where the grammar g remains
pub record PointsHistory (g : Grammar) (y : ℕ) (found : List ℕ) (ops : List Op) (r : Ran) : Type 0 where
  -- every reply is what the machine says
  pub replied : AllReplied ops (begun g y) r.replies
  -- at the end bytes, count and chart are those of opening and taking only the bytes that remain
  pub bytes : r.held.state.bytes ≡ (taken_again g y found ops).state.bytes
  pub count : r.held.state.count ≡ (taken_again g y found ops).state.count
  pub chart : r.held.chart ≡ (taken_again g y found ops).chart
  -- the points are the machine's; grammar and year are kept
  pub points : r.held.state.points ≡ map point_number (remains_after ops (begun g y)).points
  pub grammar : r.held.grammar ≡ g
  pub year : r.held.state.year ≡ y
