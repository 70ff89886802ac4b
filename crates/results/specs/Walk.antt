-- The walk of demand 3: a plain machine for one grammar and one input, fed only which of the four calls comes. Assumes nothing.
use Rattle.std.specs.Prelude.{ℕ, zero, suc, ◌/◌, true, false, cond, List, [], ◌∷◌, ltb, leb, eqb, length, get_or}
use Rattle.std.proofs.Math.Logic.{ite}
use Rattle.sizes.specs.Sizes.{most}
use Rattle.cfg.specs.Grammar.{Cfg}
use Rattle.cfg.specs.Tree.{HasTree}
use Rattle.cfg.specs.Listing.{L}

-- the calls: first; next, offered the caller's copy; next, offered a row that is no derivation (reading) of the input; count
pub data Call : Type 0 where
  first next_copy next_other count : Call

-- what a call says; for a reading that is handed out, its number of nodes and the reading
pub data Said : Type 0 where
  hands_out : ℕ → List ℕ → Said
  no_derivation none_left : Said
  refuses : ℕ → Said
  counts : ℕ → Said
  more : Said

-- what a call says, and the place p after it
pub record Move : Type 0 where
  pub said : Said
  pub place : ℕ

abbrev pub move : Said → ℕ → Move
move s p = record { said = s; place = p }

-- N of document 01
abbrev pub N : Cfg → List ℕ → ℕ
N G w = length (L G w)

-- reading i of L, counted from 1
abbrev pub reading : Cfg → List ℕ → ℕ → List ℕ
reading G w zero = []
reading G w (suc i) = get_or (L G w) i []

-- a reading is handed out: it has two numbers for each node
abbrev pub hands : List ℕ → Said
hands e = hands_out (length e / 2) e

-- what count says of N: N up to 4,096, "more" above
unfoldable pub says_count : ℕ → Said
says_count n = cond (leb n most) (counts n) more

module _ (G : Cfg) (w : List ℕ) (tree : Dec (HasTree G w)) where
  -- one call at the place p, which stays unless a line says otherwise
  unfoldable pub walk : Call → ℕ → Move
  walk first p =
      elim (ltb 0 (N G w)) [ true ↦ move (hands (reading G w 1)) 1 | false ↦ move (ite tree (refuses 13) no_derivation) p ]
  walk next_copy zero = move (refuses 12) zero
  walk next_copy (suc p) =
      elim (ltb (suc p) (N G w)) [ true ↦ move (hands (reading G w (suc (suc p)))) (suc (suc p)) | false ↦ move none_left (suc p) ]
  walk next_other p = move (refuses 12) p
  walk count p =
      elim (eqb (N G w) 0) [
        | true ↦ move (ite tree (refuses 13) (counts 0)) p
        | false ↦ move (says_count (N G w)) p
      ]

  -- what a list of calls says, from the place p on
  unfoldable pub walked : List Call → ℕ → List Said
  walked [] p = []
  walked (c ∷ calls) p = (walk c p).said ∷ walked calls (walk c p).place

  -- the place after a list of calls
  unfoldable pub place_after : List Call → ℕ → ℕ
  place_after [] p = p
  place_after (c ∷ calls) p = place_after calls (walk c p).place

-- the derivations that are handed out, among what is said
unfoldable pub handed_out : List Said → List (List ℕ)
handed_out [] = []
handed_out (hands_out n e ∷ said) = e ∷ handed_out said
handed_out (no_derivation ∷ said) = handed_out said
handed_out (none_left ∷ said) = handed_out said
handed_out (refuses n ∷ said) = handed_out said
handed_out (counts n ∷ said) = handed_out said
handed_out (more ∷ said) = handed_out said

-- how often next is offered the copy
unfoldable pub nexts : List Call → ℕ
nexts [] = 0
nexts (first ∷ calls) = nexts calls
nexts (next_copy ∷ calls) = suc (nexts calls)
nexts (next_other ∷ calls) = nexts calls
nexts (count ∷ calls) = nexts calls

-- there is no first among the calls
abbrev pub NoFirst : List Call → Type 0
NoFirst [] = Unit {0}
NoFirst (first ∷ calls) = ⊥
NoFirst (next_copy ∷ calls) = NoFirst calls
NoFirst (next_other ∷ calls) = NoFirst calls
NoFirst (count ∷ calls) = NoFirst calls
