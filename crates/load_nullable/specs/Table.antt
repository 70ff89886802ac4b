-- Books for the search, as one table: from the bytes of a book to the set that is found and the number of passes. `SearchTable` is what is
-- proved of it. Assumes nothing.
use Rattle.std.specs.Prelude.{ℕ, List, [], ◌∷◌, map, ◌≡◌}
use Rattle.results.specs.Answer.{loaded}
use Rattle.results.specs.Load.{load_of}
use Rattle.results.specs.Drawer.{start, new_rule, nonterminal_place, A, close, bare}
use Rattle.results.specs.Requests.{only_a, chain, reversed_chain}
use Rattle.results.specs.Starred.{grammar_from}
use Rattle.load_nullable.specs.declared.Sought.{Sought}
use Rattle.load_nullable.specs.Nullable.{search_of}

-- 0 → 0
abbrev pub unit_alone : List ℕ
unit_alone = start 0 (new_rule 0 (nonterminal_place 0 close))

-- 0 → nothing
abbrev pub nothing_alone : List ℕ
nothing_alone = start 0 (new_rule 0 close)

-- 1 → 0 0, 0 → 2, 2 → nothing
abbrev pub doubled : List ℕ
doubled =
    start 0 (new_rule 1 (nonterminal_place 0 (nonterminal_place 0 (new_rule 0 (nonterminal_place 2 (new_rule 2 close))))))

-- 2 → 1 A, 1 → 0, 0 → nothing
abbrev pub with_byte : List ℕ
with_byte = start 0 (new_rule 2 (nonterminal_place 1 (A (new_rule 1 (nonterminal_place 0 (new_rule 0 close))))))

-- a line of the table: a book, and what the search of its grammar gives back
pub record SearchLine : Type 0 where
  pub bytes : List ℕ
  pub gives : Sought

-- the line of a book whose search finds this set in this number of passes
abbrev pub finds : List ℕ → ℕ → ℕ → SearchLine
finds bytes known passes = record { bytes = bytes; gives = record { set = known; passes = passes } }

-- the table; bit k of a set is 1 if the nonterminal k is in it
unfoldable pub searches : List SearchLine
searches =
    finds bare 0b0 1
    ∷ finds only_a 0b0 1
    ∷ finds unit_alone 0b0 1
    ∷ finds nothing_alone 0b1 2
    ∷ finds chain 0xFFFFFFFF 2
    ∷ finds reversed_chain 0xFFFFFFFF 33
    ∷ finds doubled 0b111 4
    ∷ finds with_byte 0b11 3
    ∷ []

-- every book loads, and the search of its grammar gives what the table says
pub record SearchTable : Type 0 where
  pub loads : map (λ (l : SearchLine). (load_of l.bytes).answer) searches ≡ map (λ (l : SearchLine). loaded) searches
  pub lines : map (λ (l : SearchLine). search_of (grammar_from l.bytes)) searches ≡ map (λ (l : SearchLine). l.gives) searches
