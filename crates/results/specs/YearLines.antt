-- Lines of the table of the requests for U9: books whose rules hold in some years, each read in several years. Assumes nothing.
use Rattle.std.specs.Prelude.{ℕ, List, [], ◌∷◌, pos}
use Rattle.results.specs.Drawer.{start, new_rule, new_rule_in, nonterminal_place, A, close, As}
use Rattle.results.specs.Starred.{Line, found_in, absent_in, zeros}

-- a seal code that was used again: 0 → A (100) from 1998 to 2007, 0 → A (200) from 2008 on
abbrev pub seals : List ℕ
seals = 0x10 ∷ 0x00 ∷ 0x21 ∷ 0x00 ∷ 0x64 ∷ 0x00 ∷ 0xCE ∷ 0x07 ∷ 0xD7 ∷ 0x07 ∷ 0x40 ∷ 0x41 ∷ 0x21 ∷ 0x00 ∷ 0xC8 ∷ 0x00 ∷ 0xD8 ∷ 0x07 ∷ 0xFF
    ∷ 0xFF ∷ 0x40 ∷ 0x41 ∷ 0x50 ∷ []

-- 0 → 1 A, 1 → nothing from year 5 to 9, 1 → A
abbrev pub empty_in_years : List ℕ
empty_in_years = start 0 (new_rule 0 (nonterminal_place 1 (A (new_rule_in 1 5 9 (new_rule 1 (A close))))))

-- 0 → 1 from year 5 to 9, 1 → A
abbrev pub start_in_years : List ℕ
start_in_years = start 0 (new_rule_in 0 5 9 (nonterminal_place 1 (new_rule 1 (A close))))

-- 0 → nothing in year 7 alone
abbrev pub one_year : List ℕ
one_year = start 0 (new_rule_in 0 7 7 close)

-- the lines, each in its year
unfoldable pub year_lines : List Line
year_lines =
    -- both ends of a span are in it, and the years next to it are not; the second rule keeps its number
    absent_in 1997 seals (As 1)
    ∷ found_in 1998 seals (As 1) 1 1 ((1 ∷ 0 ∷ []) ∷ []) (pos 10 ∷ [])
    ∷ found_in 2007 seals (As 1) 1 1 ((1 ∷ 0 ∷ []) ∷ []) (pos 10 ∷ [])
    ∷ found_in 2008 seals (As 1) 1 1 ((1 ∷ 1 ∷ []) ∷ []) (pos 20 ∷ [])
    ∷ found_in 65535 seals (As 1) 1 1 ((1 ∷ 1 ∷ []) ∷ []) (pos 20 ∷ [])
    -- a rule without places that is out of force makes nothing empty
    ∷ absent_in 4 empty_in_years (As 1)
    ∷ found_in 5 empty_in_years (As 1) 2 1 ((1 ∷ 0 ∷ 0 ∷ 1 ∷ []) ∷ []) (zeros 1)
    ∷ found_in 9 empty_in_years (As 1) 2 1 ((1 ∷ 0 ∷ 0 ∷ 1 ∷ []) ∷ []) (zeros 1)
    ∷ absent_in 10 empty_in_years (As 1)
    ∷ found_in 10 empty_in_years (As 2) 2 1 ((2 ∷ 0 ∷ 1 ∷ 2 ∷ []) ∷ []) (zeros 1)
    ∷ absent_in 6 one_year []
    ∷ found_in 7 one_year [] 1 1 ((0 ∷ 0 ∷ []) ∷ []) (zeros 1)
    ∷ absent_in 8 one_year []
    -- a start symbol without a rule in force
    ∷ absent_in 4 start_in_years (As 1)
    ∷ found_in 5 start_in_years (As 1) 2 1 ((1 ∷ 0 ∷ 1 ∷ 1 ∷ []) ∷ []) (zeros 1)
    ∷ absent_in 10 start_in_years (As 1)
    ∷ []
