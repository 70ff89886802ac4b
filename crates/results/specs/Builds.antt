-- U7: pairs of derivations, each with the answer of same build, and with the one before this request. Assumes nothing.
use Rattle.std.specs.Prelude.{ℕ, Bool, true, false, List, [], ◌∷◌, replicate}
use Rattle.sizes.specs.Sizes.{cells}
use Rattle.results.specs.Answer.{Answer, answered}
use Rattle.results.specs.Measure.{same_build_of}
use Rattle.results.specs.Before.{same_bag_build_of}
use Rattle.results.specs.Drawer.{start, new_rule, nonterminal_place, A, close, As}
use Rattle.results.specs.Starred.{dated_from}

-- 0 → 1 1, 1 → A, 1 → 2, 2 → A
abbrev pub two_ways : List ℕ
two_ways =
    start 0 (new_rule 0 (nonterminal_place 1 (nonterminal_place 1
    (new_rule 1 (A (new_rule 1 (nonterminal_place 2 (new_rule 2 (A close)))))))))

-- its derivations of `AA`, named after the two rules of nonterminal 1
abbrev pub rules11 : List ℕ
rules11 = 2 ∷ 0 ∷ 1 ∷ 1 ∷ 1 ∷ 1 ∷ []

abbrev pub rules12 : List ℕ
rules12 = 2 ∷ 0 ∷ 1 ∷ 1 ∷ 1 ∷ 2 ∷ 1 ∷ 3 ∷ []

abbrev pub rules21 : List ℕ
rules21 = 2 ∷ 0 ∷ 1 ∷ 2 ∷ 1 ∷ 3 ∷ 1 ∷ 1 ∷ []

abbrev pub rules22 : List ℕ
rules22 = 2 ∷ 0 ∷ 1 ∷ 2 ∷ 1 ∷ 3 ∷ 1 ∷ 2 ∷ 1 ∷ 3 ∷ []

-- 0 → 1 2, 1 → A 2, 2 → B, 2 → nothing
abbrev pub moved_b : List ℕ
moved_b =
    start 0 (new_rule 0 (nonterminal_place 1 (nonterminal_place 2
    (new_rule 1 (A (nonterminal_place 2 (new_rule 2 (0x40 ∷ 0x42 ∷ new_rule 2 close))))))))

-- the input `AB`, and its derivations for `moved_b`: the node of B is beside that of A or inside it
abbrev pub AB : List ℕ
AB = 0x41 ∷ 0x42 ∷ []

abbrev pub beside : List ℕ
beside = 2 ∷ 0 ∷ 1 ∷ 1 ∷ 0 ∷ 3 ∷ 1 ∷ 2 ∷ []

abbrev pub inside : List ℕ
inside = 2 ∷ 0 ∷ 2 ∷ 1 ∷ 1 ∷ 2 ∷ 0 ∷ 3 ∷ []

-- the answers of same build: by the rules in preorder, and by their bag
pub record Compared : Type 0 where
  pub ordered : Answer Bool
  pub as_bags : Answer Bool

-- the answers for a book, an input and two rows, over a chart that holds other numbers
unfoldable pub compared : List ℕ → List ℕ → List ℕ → List ℕ → Compared
compared bytes w a b = record {
  ordered = (same_build_of (dated_from bytes) w a b (replicate cells 7)).answer;
  as_bags = (same_bag_build_of (dated_from bytes) w a b (replicate cells 7)).answer;
}

-- a line of the table: a book, an input, two rows, and their answers
pub record Pair : Type 0 where
  pub bytes : List ℕ
  pub input : List ℕ
  pub one : List ℕ
  pub other : List ℕ
  pub gives : Compared

-- a line whose rows are derivations, with both answers
abbrev pub pair_of : List ℕ → List ℕ → List ℕ → List ℕ → Bool → Bool → Pair
pair_of bytes w a b now before = record {
  bytes = bytes;
  input = w;
  one = a;
  other = b;
  gives = record { ordered = answered now; as_bags = answered before };
}

-- a line for `AA`
abbrev pub on_aa : List ℕ → List ℕ → Bool → Bool → Pair
on_aa = pair_of two_ways (As 2)

-- the table
unfoldable pub builds : List Pair
builds =
    -- the same rules in another order
    on_aa rules12 rules21 false true
    ∷ on_aa rules21 rules12 false true
    -- a derivation and itself
    ∷ on_aa rules11 rules11 true true
    ∷ on_aa rules12 rules12 true true
    ∷ on_aa rules21 rules21 true true
    ∷ on_aa rules22 rules22 true true
    -- other rules
    ∷ on_aa rules11 rules12 false false
    ∷ on_aa rules11 rules21 false false
    ∷ on_aa rules12 rules22 false false
    -- covers are not compared
    ∷ pair_of moved_b AB beside inside true true
    ∷ []
