-- The sizes of documents 01 and 02, each defined once. Assumes nothing.
use Rattle.std.specs.Prelude.{ℕ, ◌+◌, ◌*◌}

-- the most rules that a grammar (book) may have
abbrev pub max_rules : ℕ
max_rules = 128

-- the most places that a rule may have
abbrev pub max_places : ℕ
max_places = 8

-- nonterminals (kinds) are numbered below this
abbrev pub nonterminals : ℕ
nonterminals = 32

-- the most bytes (marks) that an input (plate) may have
abbrev pub max_input : ℕ
max_input = 64

-- the most points of a plate in hand (document 02, U6); they are named by the numbers below this
abbrev pub max_points : ℕ
max_points = 8

-- the number of positions where a span (stretch) can start or end: before each byte, and after the last
abbrev pub side : ℕ
side = max_input + 1

-- the number of cells of a chart (words of a sheet)
abbrev pub cells : ℕ
cells = side * side

-- the most nodes (parts) that a derivation (reading) may have
abbrev pub max_nodes : ℕ
max_nodes = 512

-- one more than any derivation has nodes: as a number of nodes it means that there is no derivation
abbrev pub too_many : ℕ
too_many = max_nodes + 1

-- the largest figure that count gives, and the most derivations that are listed
abbrev pub most : ℕ
most = 4096

-- the fewest numbers that an output may have: two for each node
abbrev pub output_size : ℕ
output_size = 2 * max_nodes
