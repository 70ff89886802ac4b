-- The sizes of lines and of their pieces. Assumes nothing.
use Rattle.std.specs.Prelude.{ℕ, ◌+◌}
use Rattle.print_number.specs.Put.{length_size}

-- every line fits a buffer of this many bytes
abbrev pub line_size : ℕ
line_size = 8192

-- the most bytes that a node has: a space, five digits, a point, five digits
abbrev pub node_size : ℕ
node_size = 12

-- the most bytes that the end of a line has: a space, an equals sign, a space, a length, a newline
abbrev pub end_size : ℕ
end_size = 3 + length_size + 1
