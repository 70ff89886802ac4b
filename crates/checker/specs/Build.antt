-- The rules of the nodes that cover something, from a node on. Assumes nothing.
use Rattle.std.specs.Prelude.{ℕ, ◌*◌, ◌/◌, ◌≤◌, ◌<◌, List, ◌≢◌, ◌≡◌, length, get_or, drop}
use Rattle.results.specs.Measure.{rules_used}

-- what is left of the rules used from node i on
abbrev pub used_from : List ℕ → ℕ → List ℕ
used_from e i = rules_used (drop (2 * i) e)

-- r is the first node from i on that covers something, or past the last node if there is none
pub record NextUsed (e : List ℕ) (i r : ℕ) : Type 0 where
  pub onward : i ≤ r
  pub covers : r < length e / 2 → get_or e (2 * r) 0 ≢ 0
  pub left : used_from e i ≡ used_from e r
