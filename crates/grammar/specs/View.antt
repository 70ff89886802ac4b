-- The abstract grammars that a declared one means, and its rule lengths by number. Assumes nothing.
use Rattle.std.specs.Prelude.{Bool, cond, ◌&&◌, map, ℕ, leb, ℤ, take, get_or}
use Rattle.std.proofs.Math.Option.{Option, none, some}
use Rattle.cfg.specs.Grammar as Abstract
use Rattle.grammar.specs.declared.Symbol.{Symbol}
use Rattle.grammar.specs.declared.Symbol.TheVariants.{Nonterminal, Terminal, Range}
use Rattle.grammar.specs.declared.Place.{Place}
use Rattle.grammar.specs.declared.Rule.{Rule}
use Rattle.grammar.specs.declared.Grammar.{Grammar}
use Rattle.grammar.specs.Zero.{no_rule}

-- the symbol that a declared symbol means
abbrev pub symbol_of : Symbol → Abstract.Symbol
symbol_of (Nonterminal k) = Abstract.nonterminal k
symbol_of (Terminal m) = Abstract.terminal (Abstract.byte m)
symbol_of (Range low high) = Abstract.terminal (Abstract.range low high)

-- the symbol that a declared place means
abbrev pub place_of : Place → Abstract.Symbol
place_of p = symbol_of p.symbol

-- the rule that a rule record means: its used places count
abbrev pub rule_of : Rule → Option Abstract.Rule
rule_of r = some (record { left = r.left; places = map place_of (take r.count r.places) })

-- the grammar of the used rule records, each under its own number; `view` says which rule a record means, if any
abbrev pub viewed_by : (Rule → Option Abstract.Rule) → Grammar → Abstract.Cfg
viewed_by view g = record { start = g.start; rules = map view (take g.count g.rules) }

-- the whole grammar (book), whatever the year. Loading, the nullable search and the nullable depth are about it
abbrev pub whole_of : Grammar → Abstract.Cfg
whole_of g = viewed_by rule_of g

-- whether a rule is in force in a year: from its first year to its last, both included
abbrev pub in_force : ℕ → Rule → Bool
in_force y r = leb r.first y && leb y r.last

-- the rule that a rule record means in a year: none, and so a number without a rule, if it is not in force
abbrev pub rule_in_year : ℕ → Rule → Option Abstract.Rule
rule_in_year y r = cond (in_force y r) (rule_of r) none

-- what decides the grammar by which an input is read: a declared grammar, and the year of the input
pub record Dated : Type 0 where
  pub grammar : Grammar
  pub year : ℕ

abbrev pub dated : Grammar → ℕ → Dated
dated g y = record { grammar = g; year = y }

-- the grammar by which an input is read: the rules in force. All calls on an input or a recognizer are about it
abbrev pub grammar_of : Dated → Abstract.Cfg
grammar_of g = viewed_by (rule_in_year g.year) g.grammar

-- the length of the rule of a number, in hundredths of a millimetre, whatever the year
abbrev pub lengths_of : Grammar → ℕ → ℤ
lengths_of g r = (get_or g.rules r no_rule).length
