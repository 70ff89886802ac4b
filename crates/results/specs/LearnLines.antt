-- Rows of the table of the requests for U8: rules that are learnt, and bytes that are refused. Assumes nothing.
use Rattle.std.specs.Prelude.{ℕ, ◌-◌, List, [], ◌∷◌, ◌++◌, pos, length, take, replicate}
use Rattle.sizes.specs.Sizes.{cells}
use Rattle.grammar.specs.declared.Grammar.{Grammar}
use Rattle.grammar.specs.Setters.{opened_rule, set_rule}
use Rattle.results.specs.Learn.{Joining, longer, enlarged, Learning, learn_of}
use Rattle.results.specs.Recognize.{State, hand_of}
use Rattle.results.specs.Drawer.{start, new_rule, new_rule_in, nonterminal_place, A, range_place, name_rule, padded, close, many}
use Rattle.results.specs.Starred.{grammar_from}
use Rattle.results.specs.NameLines.{body_name, named_t}

-- a rule to learn: the bytes of the book and of the rule
pub record RuleLine : Type 0 where
  pub book : List ℕ
  pub rule : List ℕ

abbrev pub rule_line : List ℕ → List ℕ → RuleLine
rule_line book rule = record { book = book; rule = rule }

-- what learning the rule makes of the book
abbrev pub rule_learnt : RuleLine → Joining
rule_learnt l = enlarged (grammar_from l.book) l.rule

-- what loading makes of the joined bytes: the book without its 50, the rule, 50
abbrev pub rule_loaded : RuleLine → Joining
rule_loaded l = longer (grammar_from (take (length l.book - 1) l.book ++ (l.rule ++ close)))

-- 0 → A
abbrev pub short_book : List ℕ
short_book = start 0 (new_rule 0 (A close))

-- 127 and 128 rules
abbrev pub many_rules : ℕ → List ℕ
many_rules n = start 0 (many n (new_rule 0) close)

-- rules that are learnt
unfoldable pub learnt_lines : List RuleLine
learnt_lines =
    -- without places, which deepens the book; with a range; the 8th place; in years
    rule_line short_book (new_rule 0 [])
    ∷ rule_line short_book (new_rule 1 (nonterminal_place 0 (range_place 0x42 0x42 [])))
    ∷ rule_line short_book (new_rule 0 (many 8 A []))
    ∷ rule_line short_book (new_rule_in 0 1998 1998 (A []))
    -- a name before, between and after the places
    ∷ rule_line short_book (new_rule 0 (name_rule body_name (A [])))
    ∷ rule_line named_t (new_rule 1 (A (name_rule (padded (0x42 ∷ [])) (A []))))
    ∷ rule_line named_t (new_rule 1 (A (name_rule (padded (0x42 ∷ [])) [])))
    -- the first rule of a book, and the 128th
    ∷ rule_line (start 3 close) (new_rule 3 (A []))
    ∷ rule_line (many_rules 127) (new_rule 0 [])
    ∷ []

-- bytes that are refused: those of the book and of the rule, the number and the offset
pub record RefusedLine : Type 0 where
  pub line : RuleLine
  pub number : ℕ
  pub offset : ℕ

abbrev pub refused_rule : List ℕ → List ℕ → ℕ → ℕ → RefusedLine
refused_rule book rule n at = record { line = rule_line book rule; number = n; offset = at }

unfoldable pub refused_lines : List RefusedLine
refused_lines =
    -- 20: no bytes; a first command that opens no rule, also cut short
    refused_rule short_book [] 20 0
    ∷ refused_rule short_book close 20 0
    ∷ refused_rule short_book (0x10 ∷ []) 20 0
    ∷ refused_rule short_book (0x30 ∷ []) 20 0
    ∷ refused_rule short_book (name_rule body_name []) 20 0
    -- 20, and not 3: the last rule of this book has a name
    ∷ refused_rule (start 0 (new_rule 0 (name_rule body_name close))) (name_rule body_name []) 20 0
    -- 20: a later one that opens a rule, 10 or 50, also cut short
    ∷ refused_rule short_book (new_rule 0 (new_rule 0 [])) 20 4
    ∷ refused_rule short_book (new_rule 0 (0x21 ∷ [])) 20 4
    ∷ refused_rule short_book (new_rule 0 (0x10 ∷ [])) 20 4
    ∷ refused_rule short_book (new_rule 0 (A close)) 20 6
    -- 2: an unknown byte, also as the first
    ∷ refused_rule short_book (0x70 ∷ []) 2 0
    ∷ refused_rule short_book (new_rule 0 (0x70 ∷ [])) 2 4
    -- 3: a second name, also cut short
    ∷ refused_rule short_book (new_rule 0 (name_rule body_name (name_rule body_name []))) 3 13
    ∷ refused_rule short_book (new_rule 0 (name_rule body_name (0x60 ∷ []))) 3 13
    -- 1: the bytes end inside a command
    ∷ refused_rule short_book (0x20 ∷ 0x20 ∷ []) 1 2
    ∷ refused_rule short_book (new_rule 0 (0x41 ∷ 0x42 ∷ [])) 1 6
    -- 4, 16, 17 for an invalid name and for one of the book, 21
    ∷ refused_rule short_book (new_rule 32 []) 4 0
    ∷ refused_rule short_book (new_rule 0 (nonterminal_place 32 [])) 4 4
    ∷ refused_rule short_book (new_rule 0 (range_place 0x42 0x41 [])) 16 4
    ∷ refused_rule short_book (new_rule 0 (name_rule (padded []) [])) 17 4
    ∷ refused_rule named_t (new_rule 0 (name_rule body_name [])) 17 4
    ∷ refused_rule short_book (new_rule_in 0 1999 1998 []) 21 0
    -- 5: the 129th rule, after 1, 4 and 21
    ∷ refused_rule (many_rules 128) (new_rule 0 []) 5 0
    ∷ refused_rule (many_rules 128) (0x20 ∷ []) 1 1
    ∷ refused_rule (many_rules 128) (new_rule 32 []) 4 0
    ∷ refused_rule (many_rules 128) (new_rule_in 0 1999 1998 []) 21 0
    -- 6: the ninth place, after 16
    ∷ refused_rule short_book (new_rule 0 (many 9 A [])) 6 20
    ∷ refused_rule short_book (new_rule 0 (many 8 A (range_place 0x42 0x41 []))) 16 20
    ∷ []

-- 0 → A with rubbish in an unused record
abbrev pub short_with_rubbish : Grammar
short_with_rubbish = set_rule (grammar_from short_book) 1 (opened_rule 7 (pos 5) 0 0)

-- a hand of the byte `B`, in the year 5, with points at 0 and 1
abbrev pub hand_of_b : State
hand_of_b = hand_of (0x42 ∷ []) (1 ∷ 2 ∷ replicate 6 0) 5

-- learning these bytes with 0 → A, this hand and a chart of sevens
abbrev pub learnt_with_b : List ℕ → Learning
learnt_with_b bytes = learn_of (grammar_from short_book) hand_of_b bytes (replicate cells 7)
