-- A declared grammar with zeros in all that is unused (document 02, U8: a longer grammar that is handed back has no rubbish of the one
-- handed in). Assumes nothing.
use Rattle.std.specs.Prelude.{ℕ, ◌-◌, ◌<◌, List, ◌++◌, map, ◌≡◌, length, take, get_or, replicate}
use Rattle.sizes.specs.Sizes.{max_rules, max_places}
use Rattle.grammar.specs.declared.Rule.{Rule}
use Rattle.grammar.specs.declared.Grammar.{Grammar}
use Rattle.grammar.specs.Setters.{set_places, set_rules}
use Rattle.grammar.specs.Zero.{zero_place, zero_rule, no_rule}

-- the rule with zeros in its unused places
unfoldable pub tidied_rule : Rule → Rule
tidied_rule r = set_places r (take r.count r.places ++ replicate (max_places - r.count) zero_place)

-- the grammar with zeros in its unused records, and in the unused places of the others
unfoldable pub tidied : Grammar → Grammar
tidied g = set_rules g (map tidied_rule (take g.count g.rules) ++ replicate (max_rules - g.count) zero_rule)

-- the lists of the grammar are as long as the arrays of a grammar in the code
pub record Shaped (g : Grammar) : Type 0 where
  pub rules : length g.rules ≡ max_rules
  pub places : (i : ℕ) → i < max_rules → length (get_or g.rules i no_rule).places ≡ max_places
