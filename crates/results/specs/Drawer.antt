-- The books of document 01's drawer, as bytes, and inputs of `A`, which is the byte 0x41. Assumes nothing.
use Rattle.std.specs.Prelude.{ℕ, zero, suc, ◌-◌, ◌/◌, ◌%◌, List, [], ◌∷◌, ◌++◌, length, replicate}
use Rattle.theory_words.specs.Name.{name_size, blank}

-- commands of a book, each before the rest of the bytes; a rule is opened with length 0
abbrev pub start : ℕ → List ℕ → List ℕ
start k rest = 0x10 ∷ k ∷ rest

abbrev pub new_rule : ℕ → List ℕ → List ℕ
new_rule k rest = 0x20 ∷ k ∷ 0 ∷ 0 ∷ rest

-- a rule that is opened with its first and its last year
abbrev pub new_rule_in : ℕ → ℕ → ℕ → List ℕ → List ℕ
new_rule_in k first last rest = 0x21 ∷ k ∷ 0 ∷ 0 ∷ first % 256 ∷ first / 256 ∷ last % 256 ∷ last / 256 ∷ rest

-- a place with the nonterminal k, and one with the byte `A`
abbrev pub nonterminal_place : ℕ → List ℕ → List ℕ
nonterminal_place k rest = 0x30 ∷ k ∷ rest

abbrev pub A : List ℕ → List ℕ
A rest = 0x40 ∷ 0x41 ∷ rest

-- a place with the range from low to high
abbrev pub range_place : ℕ → ℕ → List ℕ → List ℕ
range_place low high rest = 0x41 ∷ low ∷ high ∷ rest

-- a name for the open rule; `padded` fills letters and digits up to eight bytes
abbrev pub name_rule : List ℕ → List ℕ → List ℕ
name_rule name rest = 0x60 ∷ (name ++ rest)

abbrev pub padded : List ℕ → List ℕ
padded name = name ++ replicate (name_size - length name) blank

abbrev pub close : List ℕ
close = 0x50 ∷ []

-- the same command n times
abbrev pub many : ℕ → (List ℕ → List ℕ) → List ℕ → List ℕ
many zero f rest = rest
many (suc n) f rest = f (many n f rest)

-- T, as document 01 writes it: 0 → 1 1 (4,600), 1 → nothing (0), 1 → A (25)
abbrev pub T : List ℕ
T = 0x10 ∷ 0x00 ∷ 0x20 ∷ 0x00 ∷ 0xF8 ∷ 0x11 ∷ 0x30 ∷ 0x01 ∷ 0x30 ∷ 0x01 ∷ 0x20 ∷ 0x01 ∷ 0x00 ∷ 0x00 ∷ 0x20 ∷ 0x01 ∷ 0x19 ∷ 0x00
    ∷ 0x40 ∷ 0x41 ∷ 0x50 ∷ []

-- 0 → 0, 0 → A
abbrev pub unit : List ℕ
unit = start 0 (new_rule 0 (nonterminal_place 0 (new_rule 0 (A close))))

-- 0 → 0 A, 0 → A
abbrev pub left : List ℕ
left = start 0 (new_rule 0 (nonterminal_place 0 (A (new_rule 0 (A close)))))

-- 0 → 0 0, 0 → A
abbrev pub pairs : List ℕ
pairs = start 0 (new_rule 0 (nonterminal_place 0 (nonterminal_place 0 (new_rule 0 (A close)))))

-- 0 → 0 0, 0 → A, 0 → nothing
abbrev pub nullable_pairs : List ℕ
nullable_pairs = start 0 (new_rule 0 (nonterminal_place 0 (nonterminal_place 0 (new_rule 0 (A (new_rule 0 close))))))

-- start 1; 1 → 0 A, 0 → 0, 0 → nothing
abbrev pub empty_unit : List ℕ
empty_unit = start 1 (new_rule 1 (nonterminal_place 0 (A (new_rule 0 (nonterminal_place 0 (new_rule 0 close))))))

-- seven places with 1 for the open rule; 1 → eight of 2; 2 → eight of 3; 3 → nothing; and what `more` adds to these
abbrev pub branches : List ℕ → List ℕ
branches more =
    many 7 (nonterminal_place 1) (new_rule 1 (many 8 (nonterminal_place 2) (new_rule 2 (many 8 (nonterminal_place 3) (new_rule 3 more)))))

-- start k; 0 → A and seven of 1; 1 → eight of 2; 2 → eight of 3; 3 → nothing; and what `more` adds to these
abbrev pub bush : ℕ → List ℕ → List ℕ
bush k more = start k (new_rule 0 (A (branches more)))

-- 0 → A, of length -25
abbrev pub recess : List ℕ
recess = 0x10 ∷ 0x00 ∷ 0x20 ∷ 0x00 ∷ 0xE7 ∷ 0xFF ∷ 0x40 ∷ 0x41 ∷ 0x50 ∷ []

-- a book of no rules
abbrev pub bare : List ℕ
bare = 0x10 ∷ 0x00 ∷ 0x50 ∷ []

-- an input of n bytes `A`
abbrev pub As : ℕ → List ℕ
As n = replicate n 0x41
