-- Plates for the requests of document 02, as one table with the columns of the starred one. `Requested` is what is proved of it.
-- Assumes nothing.
use Rattle.std.specs.Prelude.{ℕ, zero, suc, true, List, [], ◌∷◌, map, ◌≡◌, ℤ, pos, neg_ℤ, replicate}
use Rattle.cfg.specs.Tree.{HasTree}
use Rattle.grammar.specs.View.{dated, grammar_of}
use Rattle.grammar.specs.Zero.{no_name}
use Rattle.results.specs.Answer.{refused, answered, loaded, refused_at}
use Rattle.results.specs.Measure.{rounded}
use Rattle.results.specs.Drawer.{start, new_rule, new_rule_in, nonterminal_place, A, range_place, close, T, bare, As}
use Rattle.results.specs.Builds.{two_ways, rules11, rules12, rules21, rules22, moved_b, AB, beside, inside, compared, Pair, builds}
use Rattle.results.specs.Starred.{grammar_from, dated_from, Line, line_outcome, found, absent, zeros}
use Rattle.results.specs.NameLines.{body_name, named_t, name_lines, names_from, answer_named, good_names, bad_names}
use Rattle.results.specs.Learn.{faulty, enlarged}
use Rattle.results.specs.LearnLines.{rule_learnt, rule_loaded, learnt_lines, RefusedLine, refused_lines, short_with_rubbish}
use Rattle.results.specs.LearnLines.{hand_of_b, learnt_with_b}
use Rattle.results.specs.YearLines.{seals, empty_in_years, start_in_years, one_year, year_lines}
use Rattle.results.specs.Texts.{TextLine, text_outcome, text_lines}

-- U1: 0 → one digit
abbrev pub one_digit : List ℕ
one_digit = start 0 (new_rule 0 (range_place 0x30 0x39 close))

-- U1: 0 → any byte
abbrev pub any_byte : List ℕ
any_byte = start 0 (new_rule 0 (range_place 0x00 0xFF close))

-- U1: 0 → A, 0 → one byte from A to A
abbrev pub twins : List ℕ
twins = start 0 (new_rule 0 (A (new_rule 0 (range_place 0x41 0x41 close))))

-- an input of one byte with one derivation, of rule 0
abbrev pub one : List ℕ → ℕ → Line
one bytes m = found bytes (m ∷ []) 1 1 ((1 ∷ 0 ∷ []) ∷ []) (zeros 1)

-- U2: 0 → 0, 0 → nothing
abbrev pub self_or_empty : List ℕ
self_or_empty = start 0 (new_rule 0 (nonterminal_place 0 (new_rule 0 close)))

-- U2: 0 → 0 0, 0 → nothing
abbrev pub pair_or_empty : List ℕ
pair_or_empty = start 0 (new_rule 0 (nonterminal_place 0 (nonterminal_place 0 (new_rule 0 close))))

-- U2: 0 → 1 1, 1 → nothing, 1 → nothing
abbrev pub empty_twins : List ℕ
empty_twins = start 0 (new_rule 0 (nonterminal_place 1 (nonterminal_place 1 (new_rule 1 (new_rule 1 close)))))

-- U2: the derivations of the input of no bytes for `empty_twins`
abbrev pub empty_twins_list : List (List ℕ)
empty_twins_list =
    (0 ∷ 0 ∷ 0 ∷ 1 ∷ 0 ∷ 1 ∷ []) ∷ (0 ∷ 0 ∷ 0 ∷ 1 ∷ 0 ∷ 2 ∷ []) ∷ (0 ∷ 0 ∷ 0 ∷ 2 ∷ 0 ∷ 1 ∷ []) ∷ (0 ∷ 0 ∷ 0 ∷ 2 ∷ 0 ∷ 2 ∷ []) ∷ []

-- U2: 0 → A
abbrev pub only_a : List ℕ
only_a = start 0 (new_rule 0 (A close))

-- U13: 0 → nothing, 1 → nothing, 2 → nothing
abbrev pub three_empty : List ℕ
three_empty = start 0 (new_rule 0 (new_rule 1 (new_rule 2 close)))

-- U3, U13: 1 → 0, 2 → 1, .., n → n - 1, and what comes after these
abbrev pub upward : ℕ → List ℕ → List ℕ
upward zero rest = rest
upward (suc n) rest = upward n (new_rule (suc n) (nonterminal_place n rest))

-- U3, U13: the same rules from the last to the first
abbrev pub downward : ℕ → List ℕ → List ℕ
downward zero rest = rest
downward (suc n) rest = new_rule (suc n) (nonterminal_place n (downward n rest))

-- U3, U13: 0 → nothing, 1 → 0, .., 31 → 30: each rule after the one that it needs
abbrev pub chain : List ℕ
chain = start 0 (new_rule 0 (upward 31 close))

-- U3, U13: 31 → 30, .., 1 → 0, 0 → nothing: each rule before the one that it needs
abbrev pub reversed_chain : List ℕ
reversed_chain = start 0 (downward 31 (new_rule 0 close))

-- U13: 0 → 1 1, 1 → 2, 1 → nothing, 2 → 0
abbrev pub around : List ℕ
around =
    start 0 (new_rule 0 (nonterminal_place 1 (nonterminal_place 1
    (new_rule 1 (nonterminal_place 2 (new_rule 1 (new_rule 2 (nonterminal_place 0 close))))))))

-- U13: 0 → A, 5 → 6 6, 6 → nothing: 5 and 6 are not reached from 0
abbrev pub unreached : List ℕ
unreached = start 0 (new_rule 0 (A (new_rule 5 (nonterminal_place 6 (nonterminal_place 6 (new_rule 6 close))))))

-- the nullable depth that loading a book gives
abbrev pub depth_from : List ℕ → ℕ
depth_from bytes = (grammar_from bytes).depth

-- the table, in the order of the requests
unfoldable pub requests : List Line
requests =
    -- U1: both ends of a range fit, and what is between them; the bytes next to it do not
    one one_digit 0x30
    ∷ one one_digit 0x35
    ∷ one one_digit 0x39
    ∷ absent one_digit (0x2F ∷ [])
    ∷ absent one_digit (0x3A ∷ [])
    ∷ one any_byte 0x00
    ∷ one any_byte 0xFF
    -- U1: a byte and the range of this byte alone are two rules
    ∷ found twins (As 1) 1 2 ((1 ∷ 0 ∷ []) ∷ (1 ∷ 1 ∷ []) ∷ []) (zeros 2)
    -- U2: an input of no bytes is read like any other; recursion over it is superfluous
    ∷ found T [] 3 1 ((0 ∷ 0 ∷ 0 ∷ 1 ∷ 0 ∷ 1 ∷ []) ∷ []) (pos 460 ∷ [])
    ∷ found self_or_empty [] 1 1 ((0 ∷ 1 ∷ []) ∷ []) (zeros 1)
    ∷ found pair_or_empty [] 1 1 ((0 ∷ 1 ∷ []) ∷ []) (zeros 1)
    ∷ found empty_twins [] 3 4 empty_twins_list (zeros 4)
    ∷ absent only_a []
    ∷ absent bare []
    -- U7: the derivations that its table compares
    ∷ found two_ways (As 2) 3 4 (rules11 ∷ rules12 ∷ rules21 ∷ rules22 ∷ []) (zeros 4)
    ∷ found moved_b AB 4 2 (beside ∷ inside ∷ []) (zeros 2)
    ∷ []

-- U5: sums in hundredths, each with its tenths
unfoldable pub sums : List (ℤ × ℤ)
sums =
    (pos 4625, pos 462)
    ∷ (pos 4635, pos 464)
    ∷ (pos 5, pos 0)
    ∷ (neg_ℤ (pos 25), neg_ℤ (pos 2))
    ∷ (pos 24, pos 2)
    ∷ (pos 15, pos 2)
    ∷ (pos 25, pos 2)
    ∷ (neg_ℤ (pos 5), pos 0)
    ∷ (neg_ℤ (pos 15), neg_ℤ (pos 2))
    ∷ (neg_ℤ (pos 35), neg_ℤ (pos 4))
    ∷ (neg_ℤ (pos 4), pos 0)
    ∷ (pos 26, pos 3)
    ∷ (neg_ℤ (pos 26), neg_ℤ (pos 3))
    ∷ []

-- what is proved of these plates
pub record Requested : Type 0 where
  -- every line comes out as the table says
  pub lines : map line_outcome requests ≡ map (λ (l : Line). l.gives) requests
  -- U2: where the table says "no reading" of an input of no bytes, it has no tree of any size
  pub no_tree_terminal : HasTree (grammar_of (dated_from only_a)) [] → ⊥
  pub no_tree_rules : HasTree (grammar_of (dated_from bare)) [] → ⊥
  -- U13: the depths of the book of no rules, of 0 → A, of a refused book (that of no bytes), and of T
  pub depths_none : map depth_from (bare ∷ only_a ∷ [] ∷ []) ≡ 0 ∷ 0 ∷ 0 ∷ []
  pub depth_T : depth_from T ≡ 2
  -- U13: three nullable nonterminals of height 1; 32 of heights 1 to 32, in both orders of the rules; heights 1, 2 and 3; not reached
  pub depths : map depth_from (three_empty ∷ chain ∷ reversed_chain ∷ around ∷ unreached ∷ []) ≡ 1 ∷ 32 ∷ 32 ∷ 3 ∷ 2 ∷ []
  -- U4: every line comes out as its table says, and the name is in the record of its rule
  pub names : map line_outcome name_lines ≡ map (λ (l : Line). l.gives) name_lines
  pub names_loaded : names_from 4 named_t ≡ body_name ∷ no_name ∷ no_name ∷ no_name ∷ []
  -- U4: these names load, and these are refused with 17 at the offset of their command
  pub names_good : map answer_named good_names ≡ replicate 6 loaded
  pub names_bad : map answer_named bad_names ≡ replicate 12 (refused_at 17 6)
  -- U5: every sum comes out as its table says
  pub rounds : map (λ (s : ℤ × ℤ). rounded s.0) sums ≡ map (λ (s : ℤ × ℤ). s.1) sums
  -- U7: every pair comes out as its table says
  pub compares : map (λ (p : Pair). compared p.bytes p.input p.one p.other) builds ≡ map (λ (p : Pair). p.gives) builds
  -- U9: every line comes out as its table says
  pub years : map line_outcome year_lines ≡ map (λ (l : Line). l.gives) year_lines
  -- U9: where it says "no reading", the input has no tree of any size in that year
  pub no_tree_before : HasTree (grammar_of (dated (grammar_from seals) 1997)) (As 1) → ⊥
  pub no_tree_empty : HasTree (grammar_of (dated (grammar_from empty_in_years) 10)) (As 1) → ⊥
  pub no_tree_start : HasTree (grammar_of (dated (grammar_from start_in_years) 4)) (As 1) → ⊥
  -- U9: the depth is that of the whole book, whatever the years
  pub depths_years : map depth_from (seals ∷ empty_in_years ∷ start_in_years ∷ one_year ∷ []) ≡ 0 ∷ 1 ∷ 0 ∷ 1 ∷ []
  -- U4: every line comes out as its table says
  pub texts : map text_outcome text_lines ≡ map (λ (l : TextLine). l.gives) text_lines
  -- U8: learning a rule gives the grammar that loading the joined bytes gives
  pub learns : map rule_learnt learnt_lines ≡ map rule_loaded learnt_lines
  -- U8: every refusal comes out as its table says
  pub unlearnt : map (λ (l : RefusedLine). rule_learnt l.line) refused_lines
      ≡ map (λ (l : RefusedLine). faulty (record { number = l.number; offset = l.offset })) refused_lines
  -- U8: rubbish is not handed back
  pub tidies : enlarged short_with_rubbish (new_rule 0 []) ≡ enlarged (grammar_from only_a) (new_rule 0 [])
  -- U8: 0 → B, in force in the year 5 alone, is learnt: the hand is as it was, and complete
  pub learnt_answer : (learnt_with_b (new_rule_in 0 5 5 (0x40 ∷ 0x42 ∷ []))).answer ≡ answered true
  pub learnt_hand : (learnt_with_b (new_rule_in 0 5 5 (0x40 ∷ 0x42 ∷ []))).state ≡ hand_of_b
  -- U8: a fault's number and offset
  pub unlearnt_answer : (learnt_with_b (new_rule 0 (A close))).answer ≡ refused 20
  pub unlearnt_offset : (learnt_with_b (new_rule 0 (A close))).offset ≡ 6
