-- Rows of the table of the requests for U4: books with names of rules. Assumes nothing.
use Rattle.std.specs.Prelude.{ℕ, List, [], ◌∷◌, ◌++◌, map, pos, replicate, take}
use Rattle.theory_words.specs.Name.{blank}
use Rattle.grammar.specs.declared.Rule.{Rule}
use Rattle.results.specs.Answer.{LoadAnswer}
use Rattle.results.specs.Load.{load_of}
use Rattle.results.specs.Drawer.{start, new_rule, name_rule, padded, A, close, As}
use Rattle.results.specs.Starred.{grammar_from, Line, found}

-- the name `BODY`
abbrev pub body_name : List ℕ
body_name = padded (0x42 ∷ 0x4F ∷ 0x44 ∷ 0x59 ∷ [])

-- T with its rule 0 named `BODY`
abbrev pub named_t : List ℕ
named_t = 0x10 ∷ 0x00 ∷ 0x20 ∷ 0x00 ∷ 0xF8 ∷ 0x11 ∷ name_rule body_name
    (0x30 ∷ 0x01 ∷ 0x30 ∷ 0x01 ∷ 0x20 ∷ 0x01 ∷ 0x00 ∷ 0x00 ∷ 0x20 ∷ 0x01 ∷ 0x19 ∷ 0x00 ∷ 0x40 ∷ 0x41 ∷ 0x50 ∷ [])

-- a name changes no reading
unfoldable pub name_lines : List Line
name_lines =
    found named_t (As 1) 3 2 ((1 ∷ 0 ∷ 0 ∷ 1 ∷ 1 ∷ 2 ∷ []) ∷ (1 ∷ 0 ∷ 1 ∷ 2 ∷ 0 ∷ 1 ∷ []) ∷ []) (pos 462 ∷ pos 462 ∷ [])
    ∷ []

-- the names of the first n rules that loading a book gives
abbrev pub names_from : ℕ → List ℕ → List (List ℕ)
names_from n bytes = map (λ (r : Rule). r.name) (take n (grammar_from bytes).rules)

-- what loading 0 → A answers, with this name for its rule
abbrev pub answer_named : List ℕ → LoadAnswer
answer_named name = (load_of (start 0 (new_rule 0 (name_rule name (A close))))).answer

-- names that load: `BODY`; `A`, `Z`, `0` and `9`; eight letters
unfoldable pub good_names : List (List ℕ)
good_names = body_name ∷ padded (0x41 ∷ []) ∷ padded (0x5A ∷ []) ∷ padded (0x30 ∷ []) ∷ padded (0x39 ∷ []) ∷ replicate 8 0x41 ∷ []

-- names that are refused
unfoldable pub bad_names : List (List ℕ)
bad_names =
    -- empty, and eight zeros
    padded []
    ∷ replicate 8 0x00
    -- another byte: those next to `A`, `Z`, `0` and `9`; a lower-case letter; a zero that fills up
    ∷ padded (0x40 ∷ [])
    ∷ padded (0x5B ∷ [])
    ∷ padded (0x2F ∷ [])
    ∷ padded (0x3A ∷ [])
    ∷ padded (0x61 ∷ [])
    ∷ (0x41 ∷ replicate 7 0x00)
    ∷ (replicate 7 0x41 ++ (0x00 ∷ []))
    -- a blank before a letter or digit: the first byte, one between, the last but one
    ∷ padded (blank ∷ 0x41 ∷ [])
    ∷ padded (0x41 ∷ blank ∷ 0x39 ∷ [])
    ∷ (replicate 6 0x41 ++ (blank ∷ 0x41 ∷ []))
    ∷ []
