-- Demand 3 of document 01: one claim about a whole list of calls, for instance first, then next until none is left. Assumes nothing.
use Rattle.std.specs.Prelude.{ℕ, ◌+◌, ◌<◌, min, List, [], ◌∷◌, ◌++◌, map, ◌⊎◌, ◌≡◌, length, take, drop}
use Rattle.cfg.specs.Tree.{Forest, nodes, Parse, HasTree}
use Rattle.cfg.specs.Derivation.{limit}
use Rattle.cfg.specs.Listing.{L}
use Rattle.grammar.specs.View.{Dated, grammar_of}
use Rattle.results.specs.Walk.{N, walked, place_after, handed_out, nexts, NoFirst}
use Rattle.results.specs.History.{Made, first, next_copy, which, history}

-- the last first of a list of calls, with the calls before and after it
pub record LastFirst (calls : List Made) : Type 0 where
  pub before : List Made
  pub chart : List ℕ
  pub out : List ℕ
  pub after : List Made
  pub split : calls ≡ before ++ first chart out ∷ after
  pub none : NoFirst (map which after)

-- the place p of the walk after a list of calls
abbrev pub place : (g : Dated) (w : List ℕ) → Dec (HasTree (grammar_of g) w) → List Made → ℕ
place g w tree calls = place_after (grammar_of g) w tree (map which calls) 0

-- the claim for a list of calls; `tree` decides whether the input has a tree
pub record Demand3 (g : Dated) (w : List ℕ) (tree : Dec (HasTree (grammar_of g) w)) (calls : List Made) : Type 0 where
  -- all answers and all derivations handed out are the walk's
  pub walks : history g w [] calls ≡ walked (grammar_of g) w tree (map which calls) 0
  -- the list has no first, or it splits at its last one
  pub splits : NoFirst (map which calls) ⊎ LastFirst calls
  -- before any first p is 0, and nothing is handed out
  pub place_before : NoFirst (map which calls) → place g w tree calls ≡ 0
  pub handed_before : NoFirst (map which calls) → handed_out (history g w [] calls) ≡ []
  -- after one, p is the smaller of N and 1 plus how often next was since offered the copy
  pub place_since : (f : LastFirst calls) → place g w tree calls ≡ min (N (grammar_of g) w) (1 + nexts (map which f.after))
  -- and the derivations handed out since the last first, its own included, are the first p of L in their order
  pub handed_since : (f : LastFirst calls)
      → handed_out (drop (length f.before) (history g w [] calls)) ≡ take (place g w tree calls) (L (grammar_of g) w)

-- nexts that are offered the copy, each with a chart and an output of its own
abbrev pub next_calls : List (List ℕ × List ℕ) → List Made
next_calls lent = map (λ (l : List ℕ × List ℕ). next_copy l.0 l.1) lent

-- the input has trees, all of more than 512 nodes
abbrev pub Larger : Dated → List ℕ → Type 0
Larger g w = HasTree (grammar_of g) w × ((t : Forest) → Parse (grammar_of g) (grammar_of g).start w t → limit < nodes t)
