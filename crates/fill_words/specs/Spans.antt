-- Spans as bits, and where their words are stored. A start and a nonterminal have the set of the ends; a rule and a place have the set of
-- the starts from which the rule's places cut up to the column's end. Each is a set of 0..63. Assumes nothing.
use Rattle.std.specs.Prelude.{ℕ, ◌+◌, ◌*◌, List, get_or}
use Rattle.sizes.specs.Sizes.{max_input, max_rules, max_places, nonterminals}

-- the words of the ends: one for each start and nonterminal
abbrev pub ends_size : ℕ
ends_size = max_input * nonterminals

-- the ends of the nonterminal k from the start i
abbrev pub ends_of : List ℕ → ℕ → ℕ → ℕ
ends_of ends i k = get_or ends (nonterminals * i + k) 0

-- the words of the starts: one for each rule and place
abbrev pub starts_size : ℕ
starts_size = max_rules * max_places

-- the starts from which the places q.. of rule r cut
abbrev pub starts_of : List ℕ → ℕ → ℕ → ℕ
starts_of starts r q = get_or starts (max_places * r + q) 0
