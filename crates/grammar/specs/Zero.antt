-- What is unused is handed back as zeros, a place as the nonterminal (kind) 0. Assumes nothing.
use Rattle.std.specs.Prelude.{ℕ, List, [], pos, replicate}
use Rattle.sizes.specs.Sizes.{max_rules, max_places}
use Rattle.theory_words.specs.Name.{name_size}
use Rattle.grammar.specs.declared.Symbol.TheVariants.{Nonterminal}
use Rattle.grammar.specs.declared.Place.{Place}
use Rattle.grammar.specs.declared.Rule.{Rule}
use Rattle.grammar.specs.declared.Grammar.{Grammar}

-- an unused place
abbrev pub zero_place : Place
zero_place = record { symbol = Nonterminal 0 }

-- eight zeros, which as a name mean that the rule has none
abbrev pub no_name : List ℕ
no_name = replicate name_size 0

-- an unused rule record; its years and its name are zeros too
abbrev pub zero_rule : Rule
zero_rule = record { left = 0; length = pos 0; count = 0; places = replicate max_places zero_place; first = 0; last = 0; name = no_name }

-- the grammar of a book without rules, which a refused book gives too
abbrev pub zero_grammar : Grammar
zero_grammar = record { start = 0; count = 0; depth = 0; rules = replicate max_rules zero_rule }

-- what a read past the end of an array of rules gives
abbrev pub no_rule : Rule
no_rule = record { left = 0; length = pos 0; count = 0; places = []; first = 0; last = 0; name = [] }
