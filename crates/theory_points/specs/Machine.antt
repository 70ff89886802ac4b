-- The plain machine of requests U6 and U8: what remains of a grammar and an input while bytes are taken, points set and returned to, and
-- rules learnt. It knows no chart and no call, only what the bytes of a rule make of a grammar. Assumes nothing.
use Rattle.std.specs.Prelude.{ℕ, true, false, cond, List, [], ◌∷◌, ◌++◌, map, eqb, leb, ltb, length, get_or, take, set, replicate}
use Rattle.std.proofs.Math.Option.{Option, none, some}
use Rattle.sizes.specs.Sizes.{max_input, max_points}
use Rattle.grammar.specs.declared.Grammar.{Grammar}
use Rattle.results.specs.Learn.{faulty, longer, enlarged}

-- an operation on a plate in hand: a byte (mark) is taken, the point of this name is set or returned to, or the rule of these bytes is
-- learnt
pub data Op : Type 0 where
  take_byte : ℕ → Op
  set_point : ℕ → Op
  return_to : ℕ → Op
  learn : List ℕ → Op

-- no operation of the list learns
abbrev pub NoLearning : List Op → Type 0
NoLearning [] = Unit {0}
NoLearning (take_byte m ∷ ops) = NoLearning ops
NoLearning (set_point k ∷ ops) = NoLearning ops
NoLearning (return_to k ∷ ops) = NoLearning ops
NoLearning (learn bytes ∷ ops) = ⊥

-- what remains: the grammar, the year, the bytes, and for each name how many bytes remained when its point was set, if it is set
pub record Remaining : Type 0 where
  pub grammar : Grammar
  pub year : ℕ
  pub bytes : List ℕ
  pub points : List (Option ℕ)

-- with other bytes and points
abbrev pub remain : Remaining → List ℕ → List (Option ℕ) → Remaining
remain r bytes points = record { grammar = r.grammar; year = r.year; bytes = bytes; points = points }

-- with another grammar, and all else kept
abbrev pub relearn : Remaining → Grammar → Remaining
relearn r g = record { grammar = g; year = r.year; bytes = r.bytes; points = r.points }

-- after opening: no byte, and no point is set
abbrev pub begun : Grammar → ℕ → Remaining
begun g y = record { grammar = g; year = y; bytes = []; points = replicate max_points none }

-- what an operation comes to: it is refused with this number, at this offset of a rule's bytes (0 without a rule); or this remains, and
-- the answer is whether these bytes are complete
pub data Effect : Type 0 where
  refused_by : ℕ → ℕ → Effect
  remains : Remaining → Effect

-- a point, after a return to where p bytes remained: it is gone if it is beyond
unfoldable pub point_up_to : ℕ → Option ℕ → Option ℕ
point_up_to p none = none
point_up_to p (some n) = cond (leb n p) (some n) none

-- the return to a point that is set where p bytes remained, or not set
unfoldable pub returned : Option ℕ → Remaining → Effect
returned none r = refused_by 19 0
returned (some p) r = remains (remain r (take p r.bytes) (map (point_up_to p) r.points))

-- one operation. 15: 64 bytes remain already; 19: the name is over 7, or is to be returned to and not set; a rule is refused as it is
-- for the grammar that remains
unfoldable pub moved : Op → Remaining → Effect
moved (take_byte m) r =
    elim (eqb (length r.bytes) max_input) [
      | true ↦ refused_by 15 0
      | false ↦ remains (remain r (r.bytes ++ (m ∷ [])) r.points)
    ]
moved (set_point k) r =
    elim (ltb k max_points) [
      | true ↦ remains (remain r r.bytes (set r.points k (some (length r.bytes))))
      | false ↦ refused_by 19 0
    ]
moved (return_to k) r = returned (get_or r.points k none) r
moved (learn bytes) r =
    elim (enlarged r.grammar bytes) [
      | faulty f ↦ refused_by f.number f.offset
      | longer g ↦ remains (relearn r g)
    ]

-- what remains after it: if it is refused, all is as it was
unfoldable pub remainder : Effect → Remaining → Remaining
remainder (refused_by n o) r = r
remainder (remains s) r = s

-- what remains after a list of operations
unfoldable pub remains_after : List Op → Remaining → Remaining
remains_after [] r = r
remains_after (op ∷ ops) r = remains_after ops (remainder (moved op r) r)
