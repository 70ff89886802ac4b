-- A symbol as three bytes: a tag that says what it is, the number that it holds, and the high end of a range. Assumes nothing.
use Rattle.std.specs.Prelude.{ℕ}
use Rattle.grammar.specs.declared.Symbol.{Symbol}
use Rattle.grammar.specs.declared.Symbol.TheVariants.{Nonterminal, Terminal, Range}

-- the tag of a symbol: 0 a nonterminal, 1 a terminal, 2 a range
abbrev pub tag_of : Symbol → ℕ
tag_of (Nonterminal k) = 0
tag_of (Terminal m) = 1
tag_of (Range low high) = 2

-- the number that a symbol holds: of a range its low end
abbrev pub value_of : Symbol → ℕ
value_of (Nonterminal k) = k
value_of (Terminal m) = m
value_of (Range low high) = low

-- the high end of a range; 0 for another symbol
abbrev pub high_of : Symbol → ℕ
high_of (Nonterminal k) = 0
high_of (Terminal m) = 0
high_of (Range low high) = high
