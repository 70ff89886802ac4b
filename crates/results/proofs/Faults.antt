-- Faulty books with the number and the offset of their refusal: one for each refusal 1 to 7, 16, 17 and 21, and one for each order between
-- them. Assumes nothing.
use Prim.Native.Nat.{ℕ}
use mathlib.Core.List.{List, [], ◌∷◌, map}
use mathlib.Core.Path.{◌≡◌, refl}
use lib.ListN.{replicate}
use Rattle.grammar.specs.Zero.{no_name, zero_grammar}
use Rattle.results.specs.Answer.{refused_at}
use Rattle.results.specs.Load.{Loading, load_of}
use Rattle.results.specs.Drawer.{start, new_rule, new_rule_in, name_rule, padded, A, range_place, close, many}
use Rattle.results.specs.NameLines.{body_name}
use Rattle.results.proofs.Computing.{computing}

-- a faulty book: its bytes, and the number and the offset of its refusal
pub record Faulty : Type 0 where
  pub bytes : List ℕ
  pub number : ℕ
  pub offset : ℕ

abbrev pub faulty : List ℕ → ℕ → ℕ → Faulty
faulty bytes n at = record { bytes = bytes; number = n; offset = at }

-- 128 rules, and a rule of eight places, each before the rest of the bytes
abbrev pub full : List ℕ → List ℕ
full rest = start 0 (many 128 (new_rule 0) rest)

abbrev pub wide : List ℕ → List ℕ
wide rest = start 0 (new_rule 0 (many 8 A rest))

unfoldable pub faults : List Faulty
faults =
    -- 1: the book ends where a command is due, inside one, and where 50 is due
    faulty [] 1 0
    ∷ faulty (0x10 ∷ []) 1 1
    ∷ faulty (0x10 ∷ 0x00 ∷ []) 1 2
    ∷ faulty (0x10 ∷ 0x00 ∷ 0x20 ∷ 0x00 ∷ 0x00 ∷ []) 1 5
    ∷ faulty (0x10 ∷ 0x00 ∷ 0x21 ∷ 0x00 ∷ []) 1 4
    -- 2: an unknown byte, also where another command was due
    ∷ faulty (0x70 ∷ []) 2 0
    ∷ faulty (0x10 ∷ 0x00 ∷ 0x70 ∷ 0x00 ∷ []) 2 2
    ∷ faulty (0x10 ∷ 0x00 ∷ 0x22 ∷ 0x00 ∷ []) 2 2
    -- 3: 10 again, another command first, 30, 40, 41 and 60 before any 20 or 21; before 1, 4, 7, 17 and 21
    ∷ faulty (0x10 ∷ 0x00 ∷ 0x10 ∷ []) 3 2
    ∷ faulty (0x50 ∷ []) 3 0
    ∷ faulty (0x50 ∷ 0x00 ∷ []) 3 0
    ∷ faulty (0x20 ∷ 0xFF ∷ 0x00 ∷ 0x00 ∷ []) 3 0
    ∷ faulty (0x10 ∷ 0x00 ∷ 0x30 ∷ []) 3 2
    ∷ faulty (0x10 ∷ 0x00 ∷ 0x40 ∷ 0x41 ∷ []) 3 2
    ∷ faulty (0x10 ∷ 0x00 ∷ 0x41 ∷ 0x30 ∷ 0x39 ∷ []) 3 2
    ∷ faulty (0x10 ∷ 0x00 ∷ 0x41 ∷ []) 3 2
    ∷ faulty (0x41 ∷ []) 3 0
    ∷ faulty (0x21 ∷ []) 3 0
    ∷ faulty (new_rule_in 0 9 8 []) 3 0
    ∷ faulty (0x60 ∷ []) 3 0
    ∷ faulty (name_rule body_name close) 3 0
    ∷ faulty (0x10 ∷ 0x00 ∷ 0x60 ∷ []) 3 2
    ∷ faulty (start 0 (name_rule no_name close)) 3 2
    -- 3: a second name for a rule, the same or another one, also after a place; before 1 and 17
    ∷ faulty (start 0 (new_rule 0 (name_rule body_name (name_rule body_name close)))) 3 15
    ∷ faulty (start 0 (new_rule 0 (name_rule body_name (A (name_rule (replicate 8 0x41) close))))) 3 17
    ∷ faulty (start 0 (new_rule 0 (name_rule body_name (name_rule no_name close)))) 3 15
    ∷ faulty (start 0 (new_rule 0 (name_rule body_name (0x60 ∷ [])))) 3 15
    -- 4: a nonterminal over 31; after 1
    ∷ faulty (0x10 ∷ 0x20 ∷ []) 4 0
    ∷ faulty (0x10 ∷ 0x00 ∷ 0x20 ∷ 0xFF ∷ []) 1 4
    ∷ faulty (start 0 (new_rule 0 (0x30 ∷ 0x20 ∷ close))) 4 6
    -- 21: the first year is above the last; after 1 and 4
    ∷ faulty (start 0 (new_rule_in 0 9 8 close)) 21 2
    ∷ faulty (start 0 (new_rule_in 0 256 255 close)) 21 2
    ∷ faulty (start 0 (new_rule_in 32 9 8 close)) 4 2
    ∷ faulty (start 0 (0x21 ∷ 0x00 ∷ 0x00 ∷ 0x00 ∷ 0xFF ∷ 0xFF ∷ 0x00 ∷ [])) 1 9
    -- 5: the 129th rule; after 1, 4 and 21
    ∷ faulty (full (new_rule 0 close)) 5 514
    ∷ faulty (full (new_rule 32 close)) 4 514
    ∷ faulty (full (0x20 ∷ 0x00 ∷ [])) 1 516
    ∷ faulty (full (new_rule_in 0 8 8 close)) 5 514
    ∷ faulty (full (new_rule_in 0 9 8 close)) 21 514
    -- 6: the ninth place; after 1 and 4
    ∷ faulty (wide (A close)) 6 22
    ∷ faulty (wide (0x30 ∷ 0x20 ∷ close)) 4 22
    ∷ faulty (wide (0x40 ∷ [])) 1 23
    ∷ faulty (wide (range_place 0x30 0x39 [])) 6 22
    -- 16: the low end of a range is above its high end; after 1, and before 6
    ∷ faulty (start 0 (new_rule 0 (range_place 0x39 0x30 []))) 16 6
    ∷ faulty (start 0 (new_rule 0 (0x41 ∷ []))) 1 7
    ∷ faulty (start 0 (new_rule 0 (0x41 ∷ 0xFF ∷ []))) 1 8
    ∷ faulty (wide (range_place 0x39 0x30 [])) 16 22
    ∷ faulty (wide (0x41 ∷ 0x39 ∷ [])) 1 24
    -- 17: a name that is not valid; after 1
    ∷ faulty (start 0 (new_rule 0 (name_rule (padded []) []))) 17 6
    ∷ faulty (start 0 (new_rule 0 (name_rule no_name []))) 17 6
    ∷ faulty (start 0 (new_rule 0 (A (name_rule (padded (0x61 ∷ [])) [])))) 17 8
    ∷ faulty (start 0 (new_rule 0 (0x60 ∷ []))) 1 7
    ∷ faulty (start 0 (new_rule 0 (0x60 ∷ replicate 7 0x00))) 1 14
    -- 17: an earlier name: that of the rule before, and of one before a rule with another name or none; after 1
    ∷ faulty (start 0 (new_rule 0 (name_rule body_name (new_rule 0 (name_rule body_name []))))) 17 19
    ∷ faulty (start 0 (new_rule 0 (name_rule body_name (new_rule 0 (name_rule (padded (0x41 ∷ [])) (new_rule 0 (name_rule body_name []))))))) 17 32
    ∷ faulty (start 0 (new_rule 0 (name_rule body_name (new_rule 0 (new_rule 0 (name_rule body_name [])))))) 17 23
    ∷ faulty (start 0 (new_rule 0 (name_rule (replicate 8 0x41) (new_rule 0 (0x60 ∷ replicate 7 0x41))))) 1 27
    -- 7: a byte after 50, whatever it is
    ∷ faulty (0x10 ∷ 0x00 ∷ 0x50 ∷ 0x00 ∷ []) 7 3
    ∷ faulty (0x10 ∷ 0x00 ∷ 0x50 ∷ 0x60 ∷ []) 7 3
    ∷ []

-- what a refused book gives: number, offset, and the grammar of no rules
unfoldable pub refusal : Faulty → Loading
refusal f = record { answer = refused_at f.number f.offset; grammar = zero_grammar }

pub faults-refused : map (λ f. load_of f.bytes) faults ≡ map refusal faults
unfolding computing faults refusal
faults-refused = refl
