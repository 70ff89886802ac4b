-- Which rules hold in a year, and the grammars in which all rules hold in all years. Assumes nothing.
use Rattle.std.specs.Prelude.{ℕ, ◌≤◌, ◌<◌, Bool, ◌&&◌, ◌≡◌, eqb, leb, take}
use Rattle.std.proofs.Math.Option.{some}
use Rattle.std.proofs.Math.ListN.{get_elem?}
use Rattle.grammar.specs.declared.Rule.{Rule}
use Rattle.grammar.specs.declared.Grammar.{Grammar}
use Rattle.grammar.specs.Setters.{last_year}
use Rattle.grammar.specs.Valid.{all}

-- rule r is in force in the year y: its record is used, and its span includes the year, both ends included
pub record InForce (g : Grammar) (y r : ℕ) : Type 0 where
  pub used : r < g.count
  pub the : Rule
  pub here : get_elem? g.rules r ≡ some the
  pub begun : the.first ≤ y
  pub lasting : y ≤ the.last

-- a rule holds in all years
abbrev pub always : Rule → Bool
always r = eqb r.first 0 && leb last_year r.last

-- all used rules hold in all years
unfoldable pub all_years : Grammar → Bool
all_years g = all always (take g.count g.rules)
