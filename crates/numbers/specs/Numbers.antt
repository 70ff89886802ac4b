-- Numbers of one width as numbers of another. A number that is too large for the narrow width becomes the largest of that width: if it
-- were cut, it could pass a test that refuses large numbers. Assumes nothing.
use Rattle.std.specs.Prelude.{ℕ, ◌-◌, ◌%◌, min, cond, ltb, ℤ, pos, negsuc, neg_ℤ}

-- a number where a byte is due: one over 255 is read as 255
abbrev pub byte_in : ℕ → ℕ
byte_in n = min n 255

-- a count in 16 bits: one over 65535 is written as 65535
abbrev pub saturated : ℕ → ℕ
saturated n = min n 65535

-- the signed number that 16 bits mean in two's complement
unfoldable pub signed_in : ℕ → ℤ
signed_in n = cond (ltb n 32768) (pos n) (neg_ℤ (pos (65536 - n)))

-- a signed number as 16 bits in two's complement
unfoldable pub unsigned_of : ℤ → ℕ
unsigned_of (pos n) = n % 65536
unsigned_of (negsuc n) = 65535 - n % 65536
