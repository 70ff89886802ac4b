-- Rows that the definitions must give, each proved by computing it: names, texts of rules, and texts of derivations. Assumes nothing.
use Prim.Native.Nat.{ℕ, zero, suc}
use mathlib.Core.Bool.{true, false}
use mathlib.Core.List.{List, [], ◌∷◌, map}
use mathlib.Core.Option.{some}
use mathlib.Core.Path.{◌≡◌, refl}
use lib.ListN.{replicate}
use Rattle.cfg.specs.Grammar.{Cfg, nonterminal, terminal, byte, joined}
use Rattle.cfg.specs.Tree.{end, leaf, node, yield, code}
use Rattle.cfg.specs.Decode.{places_of, with_siblings, row_in, below_in, forest_in}
use Rattle.theory_words.specs.Name.{blank, name_byte, filling, filled_up, valid_name, unnamed, unfilled, hex_digit, number_text, rule_text}
use Rattle.theory_words.specs.Words.{leaf_text, following, forest_text, derivation_text}

unfoldable spelling : Unit {0}
unfolding joined yield code places_of with_siblings row_in below_in forest_in
    name_byte filling filled_up valid_name unnamed unfilled hex_digit number_text rule_text leaf_text following forest_text derivation_text
spelling = tt

-- `BODY` with its filling
abbrev body : List ℕ
body = 0x42 ∷ 0x4F ∷ 0x44 ∷ 0x59 ∷ replicate 4 blank

abbrev no_name : List ℕ
no_name = replicate 8 0

-- ---- names

-- `BODY`; `A`; `Z`; `0`; `9`; eight bytes without filling
pub names-valid : map valid_name (body ∷ (0x41 ∷ replicate 7 blank) ∷ (0x5A ∷ replicate 7 blank) ∷ (0x30 ∷ replicate 7 blank)
    ∷ (0x39 ∷ replicate 7 blank) ∷ replicate 8 0x41 ∷ []) ≡ replicate 6 true
unfolding spelling
names-valid = refl

-- no letter or digit; no name; what is next to `A`, `Z`, `0` and `9`; a lower-case letter
pub bytes-invalid : map valid_name (replicate 8 blank ∷ no_name ∷ replicate 8 0x40 ∷ replicate 8 0x5B ∷ replicate 8 0x2F ∷ replicate 8 0x3A
    ∷ replicate 8 0x61 ∷ []) ≡ replicate 7 false
unfolding spelling
bytes-invalid = refl

-- a blank before a letter, at the front and later; a zero in the filling; seven bytes; nine bytes
pub forms-invalid : map valid_name ((blank ∷ replicate 7 0x41) ∷ (0x41 ∷ blank ∷ 0x41 ∷ replicate 5 blank) ∷ (0x41 ∷ 0 ∷ replicate 6 blank)
    ∷ replicate 7 0x41 ∷ replicate 9 0x41 ∷ []) ≡ replicate 5 false
unfolding spelling
forms-invalid = refl

-- ---- texts of rules and leaves

-- `BODY`, and a name without filling
pub name-texts : rule_text body 5 ∷ rule_text (replicate 8 0x41) 5 ∷ [] ≡ (0x42 ∷ 0x4F ∷ 0x44 ∷ 0x59 ∷ []) ∷ replicate 8 0x41 ∷ []
unfolding spelling
name-texts = refl

-- `#000`, `#007`, `#127`
pub number-texts : map (rule_text no_name) (0 ∷ 7 ∷ 127 ∷ [])
    ≡ (0x23 ∷ 0x30 ∷ 0x30 ∷ 0x30 ∷ []) ∷ (0x23 ∷ 0x30 ∷ 0x30 ∷ 0x37 ∷ []) ∷ (0x23 ∷ 0x31 ∷ 0x32 ∷ 0x37 ∷ []) ∷ []
unfolding spelling
number-texts = refl

-- `=41`, `=0A`, `=9F`
pub leaf-texts : map leaf_text (0x41 ∷ 0x0A ∷ 0x9F ∷ [])
    ≡ (0x3D ∷ 0x34 ∷ 0x31 ∷ []) ∷ (0x3D ∷ 0x30 ∷ 0x41 ∷ []) ∷ (0x3D ∷ 0x39 ∷ 0x46 ∷ []) ∷ []
unfolding spelling
leaf-texts = refl

-- ---- texts of derivations

-- the book T: 0 → 1 1, 1 → nothing, 1 → A
abbrev T : Cfg
T = record {
  start = 0;
  rules =
      some (record { left = 0; places = nonterminal 1 ∷ nonterminal 1 ∷ [] })
      ∷ some (record { left = 1; places = [] })
      ∷ some (record { left = 1; places = terminal (byte 0x41) ∷ [] })
      ∷ [];
}

-- no rule has a name
abbrev numbered : ℕ → List ℕ
numbered r = rule_text no_name r

-- rule 0 is named `BODY`
abbrev named : ℕ → List ℕ
named zero = rule_text body 0
named (suc r) = rule_text no_name (suc r)

-- `#000(#001(),#002(=41))`
pub T-first : derivation_text T numbered (0x41 ∷ []) (1 ∷ 0 ∷ 0 ∷ 1 ∷ 1 ∷ 2 ∷ [])
    ≡ 0x23 ∷ 0x30 ∷ 0x30 ∷ 0x30 ∷ 0x28 ∷ 0x23 ∷ 0x30 ∷ 0x30 ∷ 0x31 ∷ 0x28 ∷ 0x29 ∷ 0x2C ∷ 0x23 ∷ 0x30 ∷ 0x30 ∷ 0x32 ∷ 0x28 ∷ 0x3D
    ∷ 0x34 ∷ 0x31 ∷ 0x29 ∷ 0x29 ∷ []
unfolding spelling
T-first = refl

-- `#000(#002(=41),#001())`
pub T-second : derivation_text T numbered (0x41 ∷ []) (1 ∷ 0 ∷ 1 ∷ 2 ∷ 0 ∷ 1 ∷ [])
    ≡ 0x23 ∷ 0x30 ∷ 0x30 ∷ 0x30 ∷ 0x28 ∷ 0x23 ∷ 0x30 ∷ 0x30 ∷ 0x32 ∷ 0x28 ∷ 0x3D ∷ 0x34 ∷ 0x31 ∷ 0x29 ∷ 0x2C ∷ 0x23 ∷ 0x30 ∷ 0x30
    ∷ 0x31 ∷ 0x28 ∷ 0x29 ∷ 0x29 ∷ []
unfolding spelling
T-second = refl

-- `BODY(#001(),#002(=41))`
pub T-named : derivation_text T named (0x41 ∷ []) (1 ∷ 0 ∷ 0 ∷ 1 ∷ 1 ∷ 2 ∷ [])
    ≡ 0x42 ∷ 0x4F ∷ 0x44 ∷ 0x59 ∷ 0x28 ∷ 0x23 ∷ 0x30 ∷ 0x30 ∷ 0x31 ∷ 0x28 ∷ 0x29 ∷ 0x2C ∷ 0x23 ∷ 0x30 ∷ 0x30 ∷ 0x32 ∷ 0x28 ∷ 0x3D
    ∷ 0x34 ∷ 0x31 ∷ 0x29 ∷ 0x29 ∷ []
unfolding spelling
T-named = refl

-- the input of no bytes has its text too: `#000(#001(),#001())`
pub T-empty : derivation_text T numbered [] (0 ∷ 0 ∷ 0 ∷ 1 ∷ 0 ∷ 1 ∷ [])
    ≡ 0x23 ∷ 0x30 ∷ 0x30 ∷ 0x30 ∷ 0x28 ∷ 0x23 ∷ 0x30 ∷ 0x30 ∷ 0x31 ∷ 0x28 ∷ 0x29 ∷ 0x2C ∷ 0x23 ∷ 0x30 ∷ 0x30 ∷ 0x31 ∷ 0x28 ∷ 0x29
    ∷ 0x29 ∷ []
unfolding spelling
T-empty = refl

-- 0 → A B C: `#000(=41,=42,=43)`
pub leaves-between : forest_text numbered (node 0 (leaf 0x41 (leaf 0x42 (leaf 0x43 end))) end)
    ≡ 0x23 ∷ 0x30 ∷ 0x30 ∷ 0x30 ∷ 0x28 ∷ 0x3D ∷ 0x34 ∷ 0x31 ∷ 0x2C ∷ 0x3D ∷ 0x34 ∷ 0x32 ∷ 0x2C ∷ 0x3D ∷ 0x34 ∷ 0x33 ∷ 0x29 ∷ []
unfolding spelling
leaves-between = refl
