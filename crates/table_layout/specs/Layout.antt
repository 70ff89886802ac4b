-- Where the costs are stored: in the tables, which are one list, and in the numbers of one span. Assumes nothing.
use Rattle.std.specs.Prelude.{ℕ, ◌+◌, ◌*◌, ◌-◌, ◌/◌, cond, List, ltb, get_or}
use Rattle.sizes.specs.Sizes.{max_input, max_rules, max_places, nonterminals, side, cells, too_many}

-- the size of the least table, which comes first: a number for each nonterminal, start and end
abbrev pub least_size : ℕ
least_size = nonterminals * cells

-- the cost of the nonterminal k from a to b in the table; 513 if k is no nonterminal
unfoldable pub cost_in : List ℕ → ℕ → ℕ → ℕ → ℕ
cost_in tables k a b = cond (ltb k nonterminals) (get_or tables (cells * k + side * a + b) 0) too_many

-- the cost of the nonterminal k in the numbers of one span; 513 if k is no nonterminal
unfoldable pub full_in : List ℕ → ℕ → ℕ
full_in full k = cond (ltb k nonterminals) (get_or full k 0) too_many

-- after it come the `alone` costs: one for each rule and place
abbrev pub alones_at : ℕ
alones_at = least_size

-- the `alone` cost of place q of rule r
abbrev pub alone_in : List ℕ → ℕ → ℕ → ℕ
alone_in tables r q = get_or tables (alones_at + max_places * r + q) 0

-- after them come the costs of rules without a child over the whole span: for each nonempty span a number for each rule
abbrev pub bares_at : ℕ
bares_at = alones_at + max_rules * max_places

-- two starts share a row of spans: a start below `half` uses its front, a start from `half` on its end
abbrev pub half : ℕ
half = max_input / 2

-- the index of the span from i to j among the spans that are not empty
unfoldable pub span_at : ℕ → ℕ → ℕ
span_at i j = cond (ltb i half) (side * i + (j - i - 1)) (side * (max_input - 1 - i) + j)

-- where the cost of rule r over the span from i to j is stored
unfoldable pub bare_at : ℕ → ℕ → ℕ → ℕ
bare_at i j r = bares_at + max_rules * span_at i j + r

-- the cost of rule r over the span from i to j, without a child over the whole span
abbrev pub bare_in : List ℕ → ℕ → ℕ → ℕ → ℕ
bare_in tables i j r = get_or tables (bare_at i j r) 0

-- the size of all tables
abbrev pub tables_size : ℕ
tables_size = bares_at + half * side * max_rules

-- the size of the rows of one rule: a row for each place and one after the last, with a number for each start
abbrev pub rows_size : ℕ
rows_size = side * (max_places + 1)
