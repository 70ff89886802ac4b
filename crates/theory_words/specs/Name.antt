-- Names of rules and the text of a rule. A name is a list of eight bytes. Assumes nothing.
use Rattle.std.specs.Prelude.{ℕ, ◌+◌, ◌/◌, ◌%◌, Bool, true, false, cond, ◌&&◌, ◌||◌, List, [], ◌∷◌, leb, ltb, eqb, length, get_or}

-- how many bytes a name has, with its filling
abbrev pub name_size : ℕ
name_size = 8

-- the byte that fills a name up
abbrev pub blank : ℕ
blank = 0x20

-- `A` to `Z` and `0` to `9`
unfoldable pub name_byte : ℕ → Bool
name_byte b = (leb 0x41 b && leb b 0x5A) || (leb 0x30 b && leb b 0x39)

-- blanks only
unfoldable pub filling : List ℕ → Bool
filling [] = true
filling (b ∷ l) = eqb b blank && filling l

-- capitals and digits, and from the first other byte on blanks only
unfoldable pub filled_up : List ℕ → Bool
filled_up [] = true
filled_up (b ∷ l) = cond (name_byte b) (filled_up l) (filling (b ∷ l))

-- a valid name: one to eight capitals and digits, filled up at the end with blanks
unfoldable pub valid_name : List ℕ → Bool
valid_name name = eqb (length name) name_size && name_byte (get_or name 0 0) && filled_up name

-- zeros only, which as a name mean that the rule has none
unfoldable pub unnamed : List ℕ → Bool
unnamed [] = true
unnamed (b ∷ l) = eqb b 0 && unnamed l

-- what a rule may have for a name: a valid one, or zeros
abbrev pub allowed_name : List ℕ → Bool
allowed_name name = unnamed name || valid_name name

-- two names are the same, byte by byte
unfoldable pub same_name : List ℕ → List ℕ → Bool
same_name [] [] = true
same_name [] (b ∷ m) = false
same_name (a ∷ l) [] = false
same_name (a ∷ l) (b ∷ m) = eqb a b && same_name l m

-- a name is one of these
unfoldable pub has_name : List ℕ → List (List ℕ) → Bool
has_name name [] = false
has_name name (other ∷ names) = same_name name other || has_name name names

-- a name without its filling: what is before the first blank
unfoldable pub unfilled : List ℕ → List ℕ
unfilled [] = []
unfilled (b ∷ l) = cond (eqb b blank) [] (b ∷ unfilled l)

-- the byte of a digit, up to 15 in capitals: `0` is 0x30, `A` is 0x41
unfoldable pub hex_digit : ℕ → ℕ
hex_digit d = cond (ltb d 10) (0x30 + d) (0x37 + d)

-- `#` and the number of a rule in three decimal digits
unfoldable pub number_text : ℕ → List ℕ
number_text r = 0x23 ∷ hex_digit (r / 100) ∷ hex_digit (r / 10 % 10) ∷ hex_digit (r % 10) ∷ []

-- the text of rule r: its name, or its number if it has none
unfoldable pub rule_text : List ℕ → ℕ → List ℕ
rule_text name r = cond (unnamed name) (number_text r) (unfilled name)
