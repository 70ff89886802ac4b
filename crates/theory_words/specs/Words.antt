-- The text of a forest and of a derivation, for any texts of the rules. Assumes nothing.
use Rattle.std.specs.Prelude.{ℕ, ◌/◌, ◌%◌, List, [], ◌∷◌, ◌++◌}
use Rattle.cfg.specs.Grammar.{Cfg, nonterminal}
use Rattle.cfg.specs.Tree.{Forest, end, leaf, node}
use Rattle.cfg.specs.Decode.{forest_in}
use Rattle.theory_words.specs.Name.{hex_digit}

-- the bytes between names and digits: `(`, `)`, `,` and `=`
abbrev pub opening : ℕ
opening = 0x28

abbrev pub closing : ℕ
closing = 0x29

abbrev pub comma : ℕ
comma = 0x2C

abbrev pub leaf_sign : ℕ
leaf_sign = 0x3D

-- a leaf: `=` and its byte in two hexadecimal digits
unfoldable pub leaf_text : ℕ → List ℕ
leaf_text m = leaf_sign ∷ hex_digit (m / 16) ∷ hex_digit (m % 16) ∷ []

-- what follows a place: a comma and the text of the places after it, or nothing after the last
unfoldable pub following : Forest → List ℕ → List ℕ
following end text = []
following (leaf m rest) text = comma ∷ text
following (node r below rest) text = comma ∷ text

-- the text of a forest; `names` has the texts of the rules. The text of a node encloses the texts of the nodes below it
unfoldable pub forest_text : (ℕ → List ℕ) → Forest → List ℕ
forest_text names end = []
forest_text names (leaf m rest) = leaf_text m ++ following rest (forest_text names rest)
forest_text names (node r below rest) =
    names r ++ (opening ∷ (forest_text names below ++ (closing ∷ following rest (forest_text names rest))))

-- the text of the derivation e of the input w
unfoldable pub derivation_text : Cfg → (ℕ → List ℕ) → List ℕ → List ℕ → List ℕ
derivation_text G names w e = forest_text names (forest_in G (nonterminal G.start ∷ []) w e)
