-- What first and then next hand out until none is left, said of parse trees alone: neither the list L nor `Derivation` is mentioned. What a
-- reader needs besides is in `cfg/specs` (Grammar, Tree, Derivation), `grammar/specs/View.antt` and `results/specs` (Walk, History).
-- Assumes nothing.
use Rattle.std.specs.Prelude.{ℕ, suc, ◌-◌, ◌≤◌, ◌≡◌, length, replicate}
use mathlib.Core.List.{List, [], ◌∷◌, ◌++◌, Memᴰ, map}
use Rattle.sizes.specs.Sizes.{max_nodes}
use Rattle.cfg.specs.Grammar.{Cfg}
use Rattle.cfg.specs.Tree.{Forest, nodes, code, Parse}
use Rattle.cfg.specs.Derivation.{Superfluous, Rising}
use Rattle.grammar.specs.View.{Dated, grammar_of}
use Rattle.results.specs.Walk.{hands, none_left, handed_out}
use Rattle.results.specs.History.{first, AllAllowed, history}
use Rattle.results.specs.Demand3.{next_calls}

-- a tree that counts: a parse tree of the start symbol over the whole input, without superfluous recursion, of at most 512 nodes
pub record CountedTree (G : Cfg) (w : List ℕ) (t : Forest) : Type 0 where
  pub parse : Parse G G.start w t
  pub plain : ¬ Superfluous G t
  pub small : nodes t ≤ max_nodes

-- first and then next hand out every such tree of the input, and nothing else
pub record EveryTree (g : Dated) (w : List ℕ) : Type 0 where
  -- the rows of numbers that are handed out
  pub rows : List (List ℕ)
  -- no tree is missing: its code is a row
  pub complete : (t : Forest) → CountedTree (grammar_of g) w t → Memᴰ (code t) rows
  -- nothing else is there: each row is the code of such a tree
  pub sound : (e : List ℕ) → Memᴰ e rows → (t : Forest) × CountedTree (grammar_of g) w t × (code t ≡ e)
  -- no two trees share a row
  pub apart : (t u : Forest) → CountedTree (grammar_of g) w t → CountedTree (grammar_of g) w u → code t ≡ code u → t ≡ u
  -- each row is before the next one, so none is there twice
  pub rising : Rising rows
  -- first, and then next at least as often as there are rows, hand out the rows; what is lent is long enough and may hold anything
  pub handed : (chart out : List ℕ) (lent : List (List ℕ × List ℕ)) → AllAllowed (grammar_of g) w (first chart out ∷ next_calls lent)
      → length rows ≤ length lent → handed_out (history g w [] (first chart out ∷ next_calls lent)) ≡ rows
  -- if there is a row, the answers are the rows, one after the other, and then "none"
  pub said : (chart out : List ℕ) (lent : List (List ℕ × List ℕ)) → AllAllowed (grammar_of g) w (first chart out ∷ next_calls lent)
      → 1 ≤ length rows → length rows ≤ suc (length lent)
      → history g w [] (first chart out ∷ next_calls lent)
      ≡ map hands rows ++ replicate (suc (length lent) - length rows) none_left
