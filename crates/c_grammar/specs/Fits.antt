-- What the declared types say of a grammar: it has 128 rules of 8 places and a name of 8 bytes, and each field but the counts fits the
-- bits that a flat row has for it. The counts may be any numbers. If they fit 16 bits too, a flat row holds the whole grammar. The years
-- are numbers of 16 bits as they are, so nothing has to be said of them. Assumes nothing.
use Rattle.std.specs.Prelude.{ℕ, ◌<◌, ◌≡◌, length, get_or}
use Rattle.std.specs.Int.Signed.{mag}
use Rattle.sizes.specs.Sizes.{max_rules, max_places}
use Rattle.theory_words.specs.Name.{name_size}
use Rattle.grammar.specs.declared.Symbol.{Symbol}
use Rattle.grammar.specs.declared.Rule.{Rule}
use Rattle.grammar.specs.declared.Grammar.{Grammar}
use Rattle.grammar.specs.Tagged.{value_of, high_of}
use Rattle.grammar.specs.Zero.{zero_place, no_rule}

-- the numbers of a symbol are bytes
abbrev pub SymbolBytes : Symbol → Type 0
SymbolBytes s = (value_of s < 256) × (high_of s < 256)

-- `mag ρ.length < 32768` says that the length is at least -32768 and below 32768
pub record DeclaredRule (ρ : Rule) : Type 0 where
  pub left : ρ.left < 256
  pub magnitude : mag ρ.length < 32768
  pub places : length ρ.places ≡ max_places
  pub symbols : (q : ℕ) → q < max_places → SymbolBytes (get_or ρ.places q zero_place).symbol
  pub name : length ρ.name ≡ name_size
  pub bytes : (k : ℕ) → k < name_size → get_or ρ.name k 0 < 256

pub record DeclaredGrammar (g : Grammar) : Type 0 where
  pub start : g.start < 256
  pub depth : g.depth < 256
  pub rules : length g.rules ≡ max_rules
  pub each : (r : ℕ) → r < max_rules → DeclaredRule (get_or g.rules r no_rule)

pub record Fits16 (g : Grammar) : Type 0 where
  pub declared : DeclaredGrammar g
  pub count : g.count < 65536
  pub counts : (r : ℕ) → r < max_rules → (get_or g.rules r no_rule).count < 65536
