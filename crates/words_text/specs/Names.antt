-- The names of the rules as a row of bytes, eight for each rule. Assumes nothing.
use Rattle.std.specs.Prelude.{ℕ, ◌*◌, List, take, drop}
use Rattle.sizes.specs.Sizes.{max_rules}
use Rattle.theory_words.specs.Name.{name_size, rule_text}

-- the bytes of the names of all rules
abbrev pub names_size : ℕ
names_size = max_rules * name_size

-- the name of rule r, with its filling
unfoldable pub name_in : List ℕ → ℕ → List ℕ
name_in names r = take name_size (drop (name_size * r) names)

-- the text of rule r
abbrev pub text_in : List ℕ → ℕ → List ℕ
text_in names r = rule_text (name_in names r) r
