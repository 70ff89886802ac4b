-- What is known of a rule and of a grammar because their types are declared: how long their arrays are, and that a length is of 16 bits. A
-- need gives this as a path into the record's fields (`c.good.0`), and here each path has a name. Assumes nothing.
use mathlib.Core.List.{List}
use mathlib.Core.Path.{◌≡◌}
use lib.ListN.{length}
use mir.Syntax.{w16}
use mir.Val.{Val, SFits}
use denote.Laws.{Is}
use Rattle.sizes.specs.Sizes.{max_rules, max_places}
use Rattle.grammar.specs.declared.Rule.{Rule}
use Rattle.grammar.specs.declared.Grammar.{Grammar}
use Rattle.grammar.specs.contracts.Rule as R
use Rattle.grammar.specs.contracts.Grammar as G

module _ (r : Rule) (vs : List Val) (known : Is R.the_row r vs) where
  pub length-fits : SFits w16 r.length
  length-fits = record { sfits = known.1.1.1.0.1 }

  pub places-long : length r.places ≡ max_places
  places-long = known.1.1.1.1.1.0.1.0.1

pub rules-long : (g : Grammar) (vs : List Val) → Is G.the_row g vs → length g.rules ≡ max_rules
rules-long g vs known = known.1.1.1.1.1.0.1.0.1
