-- Rows that the abstract definitions must give: what L holds and in which order, what superfluous recursion is and is not, where the
-- limit of 512 nodes lies, and how deep empty trees are. The tables from the bytes of books to the answers are those of crate `results`.
-- Assumes nothing.
use Prim.Native.Nat.{ℕ, zero, suc}
use mathlib.Core.List.{List, [], ◌∷◌, map}
use mathlib.Core.Option.{Option, none, some, some-injective}
use mathlib.Core.Path.{◌≡◌, refl, sym, ap}
use native.Mathlib.Omega.{arith}
use lib.ListN.{length, replicate}
use Rattle.sets.specs.Set.{has, insert}
use Rattle.cfg.specs.Grammar.{Cfg, Rule, Symbol, nonterminal, terminal, byte, fits, joined, Of}
use Rattle.cfg.specs.Tree.{end, leaf, node, yield, code}
use Rattle.cfg.specs.Derivation.{Has, has_here, has_below, has_beside, has_after, first_less, first_same}
use Rattle.cfg.specs.Derivation.{Superfluous, super_here, super_below, super_beside, super_after, Rising, rising_one, rising_more}
use Rattle.cfg.specs.Decode.{places_of, with_siblings, row_in, below_in, forest_in}
use Rattle.cfg.specs.Listing.{L, over, when, from, among, keep, rules_from, items, up_to, listing, derivations}
use Rattle.cfg.specs.Nullable.{symbols_in, heads, level, first_height, depth_of}

abbrev pub A : Symbol
A = terminal (byte 65)

infix 70 ◌⇒◌
abbrev pub ◌⇒◌ : ℕ → List Symbol → Option Rule
k ⇒ places = some (record { left = k; places = places })

-- a grammar of start symbol 0
abbrev pub grammar : List (Option Rule) → Cfg
grammar rules = record { start = 0; rules = rules }

-- 0 → 0 0, 0 → A
abbrev pub pairs : Cfg
pairs = grammar (0 ⇒ (nonterminal 0 ∷ nonterminal 0 ∷ []) ∷ 0 ⇒ (A ∷ []) ∷ [])

-- L for n bytes `A`, with all definitions that it uses unfolded
unfoldable pub list_of : Cfg → ℕ → List (List ℕ)
unfolding fits joined over when from among keep rules_from items up_to listing derivations
list_of G n = L G (replicate n 65)

-- both derivations of AAA: the one whose first child covers less comes first
pub pairs-listed : list_of pairs 3
    ≡ (3 ∷ 0 ∷ 1 ∷ 1 ∷ 2 ∷ 0 ∷ 1 ∷ 1 ∷ 1 ∷ 1 ∷ []) ∷ (3 ∷ 0 ∷ 2 ∷ 0 ∷ 1 ∷ 1 ∷ 1 ∷ 1 ∷ 1 ∷ 1 ∷ []) ∷ []
unfolding list_of
pairs-listed = refl

-- they are in rising order
pub pairs-rising : Rising ((3 ∷ 0 ∷ 1 ∷ 1 ∷ []) ∷ (3 ∷ 0 ∷ 2 ∷ 0 ∷ []) ∷ [])
pairs-rising = rising_more (first_same (first_same (first_less {a = 1} {b = 2} (omega arith)))) rising_one

-- bytes and a code give the forest back
pub pairs-decoded
    : forest_in pairs (nonterminal 0 ∷ []) (65 ∷ 66 ∷ 67 ∷ 68 ∷ []) (4 ∷ 0 ∷ 2 ∷ 0 ∷ 1 ∷ 1 ∷ 1 ∷ 1 ∷ 2 ∷ 0 ∷ 1 ∷ 1 ∷ 1 ∷ 1 ∷ [])
    ≡ node 0 (node 0 (node 1 (leaf 65 end) (node 1 (leaf 66 end) end)) (node 0 (node 1 (leaf 67 end) (node 1 (leaf 68 end) end)) end)) end
unfolding joined yield code places_of with_siblings row_in below_in forest_in
pairs-decoded = refl

-- twin rules count as two, and the smaller number comes first; a number without a rule is counted too
pub twins-listed : list_of (grammar (0 ⇒ (A ∷ []) ∷ none ∷ 0 ⇒ (A ∷ []) ∷ [])) 1 ≡ (1 ∷ 0 ∷ []) ∷ (1 ∷ 2 ∷ []) ∷ []
unfolding list_of
twins-listed = refl

-- 0 → 0, 0 → A: the same nonterminal over the same bytes is superfluous
pub unit-listed : list_of (grammar (0 ⇒ (nonterminal 0 ∷ []) ∷ 0 ⇒ (A ∷ []) ∷ [])) 1 ≡ (1 ∷ 1 ∷ []) ∷ []
unfolding list_of
unit-listed = refl

-- 0 → 0, 0 → nothing: so it is over no bytes, also at the root
pub empty-unit-listed : list_of (grammar (0 ⇒ (nonterminal 0 ∷ []) ∷ 0 ⇒ [] ∷ [])) 0 ≡ (0 ∷ 1 ∷ []) ∷ []
unfolding list_of
empty-unit-listed = refl

-- 0 → 0 A, 0 → A: the same nonterminal over fewer bytes is not
pub nested-listed : list_of (grammar (0 ⇒ (nonterminal 0 ∷ A ∷ []) ∷ 0 ⇒ (A ∷ []) ∷ [])) 3 ≡ (3 ∷ 0 ∷ 2 ∷ 0 ∷ 1 ∷ 1 ∷ []) ∷ []
unfolding list_of
nested-listed = refl

-- 0 → 1, 1 → A: another nonterminal over the same bytes is not
pub other-listed : list_of (grammar (0 ⇒ (nonterminal 1 ∷ []) ∷ 1 ⇒ (A ∷ []) ∷ [])) 1 ≡ (1 ∷ 0 ∷ 1 ∷ 1 ∷ []) ∷ []
unfolding list_of
other-listed = refl

-- a bush of 512 nodes is within the limit, and one of 513 is not
abbrev pub bush : ℕ → Cfg
bush k = record {
  start = k;
  rules =
      0 ⇒ (A ∷ replicate 7 (nonterminal 1)) ∷ 1 ⇒ replicate 8 (nonterminal 2) ∷ 2 ⇒ replicate 8 (nonterminal 3) ∷ 3 ⇒ []
      ∷ 4 ⇒ (nonterminal 0 ∷ []) ∷ [];
}

pub limit-met : map length (list_of (bush 0) 1) ≡ 1024 ∷ []
unfolding list_of
limit-met = refl

pub limit-passed : list_of (bush 4) 1 ≡ []
unfolding list_of
limit-passed = refl

-- 0 → 0 A, 0 → A, 0 → 1, 1 → 0: the grammar of the trees below
abbrev pub nest : Cfg
nest = grammar (0 ⇒ (nonterminal 0 ∷ A ∷ []) ∷ 0 ⇒ (A ∷ []) ∷ 0 ⇒ (nonterminal 1 ∷ []) ∷ 1 ⇒ (nonterminal 0 ∷ []) ∷ [])

-- 0 above 1 above 0, all over one byte: superfluous, two levels apart
pub cycle-superfluous : Superfluous nest (node 2 (node 3 (node 1 (leaf 65 end) end) end) end)
unfolding joined yield
cycle-superfluous =
    super_here {k = 0} (record { the = record { left = 0; places = nonterminal 1 ∷ [] }; here = refl; left = refl })
    (has_below (has_here (record { the = record { left = 0; places = A ∷ [] }; here = refl; left = refl }) refl))

-- a row of leaves has no node, so no superfluous recursion
no_node : {G : Cfg} {k n m : ℕ} → Has G k n (leaf m end) → ⊥
no_node (has_after h) = elim h [ ]

leaves-plain : {G : Cfg} {m : ℕ} → Superfluous G (leaf m end) → ⊥
leaves-plain (super_after h) = elim h [ ]

-- 0 over two bytes above 0 over one: plain, though the nonterminal is the same
pub nested-plain : Superfluous nest (node 0 (node 1 (leaf 65 end) (leaf 65 end)) end) → ⊥
unfolding yield
nested-plain (super_here o (has_here p e)) = omega (arith, e)
nested-plain (super_here o (has_below h)) = no_node h
nested-plain (super_here o (has_beside h)) = no_node h
nested-plain (super_below (super_here o h)) = no_node h
nested-plain (super_below (super_below h)) = leaves-plain h
nested-plain (super_below (super_beside h)) = leaves-plain h
nested-plain (super_beside h) = elim h [ ]

-- 0 → 1, 1 → A: another nonterminal over the same bytes is plain
abbrev pub chain : Cfg
chain = grammar (0 ⇒ (nonterminal 1 ∷ []) ∷ 1 ⇒ (A ∷ []) ∷ [])

-- rules 0 and 1 of that grammar are not of one nonterminal
chain_left : {k : ℕ} → Of chain 1 k → Of chain 0 k → ⊥
unfolding joined
chain_left o p =
    let here : some (record { left = 1; places = A ∷ [] }) ≡ some o.the = o.here in
    let there : some (record { left = 0; places = nonterminal 1 ∷ [] }) ≡ some p.the = p.here in
    let a : o.the.left ≡ 1 = ap (λ (r : Rule). r.left) (sym (some-injective _ _ here)) in
    let b : p.the.left ≡ 0 = ap (λ (r : Rule). r.left) (sym (some-injective _ _ there)) in
    omega (arith, a, b, o.left, p.left)

pub other-plain : Superfluous chain (node 0 (node 1 (leaf 65 end) end) end) → ⊥
other-plain (super_here o (has_here p e)) = chain_left p o
other-plain (super_here o (has_below h)) = no_node h
other-plain (super_here o (has_beside h)) = elim h [ ]
other-plain (super_below (super_here o h)) = no_node h
other-plain (super_below (super_below h)) = leaves-plain h
other-plain (super_below (super_beside h)) = elim h [ ]
other-plain (super_beside h) = elim h [ ]

-- ---- the nullable depth

-- the levels of these heights and the depth, with all definitions that they use unfolded
unfoldable pub levels_of : List (Option Rule) → List ℕ → List ℕ
unfolding has insert symbols_in heads level
levels_of rules heights = map (level (grammar rules)) heights

unfoldable pub depth_by : List (Option Rule) → ℕ
unfolding has insert symbols_in heads level first_height depth_of
depth_by rules = depth_of (grammar rules)

-- 1 → 0, 2 → 1, .., n → n - 1, and further rules
abbrev pub units : ℕ → List (Option Rule) → List (Option Rule)
units zero rest = rest
units (suc n) rest = units n (suc n ⇒ (nonterminal n ∷ []) ∷ rest)

-- 0 → nothing, 1 → 0, 2 → 1: each level has one member more, although one pass over the rules would find all
pub levels-rise : levels_of (0 ⇒ [] ∷ units 2 []) (0 ∷ 1 ∷ 2 ∷ 3 ∷ 4 ∷ []) ≡ 0b000 ∷ 0b001 ∷ 0b011 ∷ 0b111 ∷ 0b111 ∷ []
unfolding levels_of
levels-rise = refl

pub three-deep : depth_by (0 ⇒ [] ∷ units 2 []) ≡ 3
unfolding depth_by
three-deep = refl

-- the same with all 32 nonterminals: no depth is greater
pub deepest : depth_by (0 ⇒ [] ∷ units 31 []) ≡ 32
unfolding depth_by
deepest = refl

-- three nullable nonterminals, each of height 1
pub three-flat : depth_by (0 ⇒ [] ∷ 1 ⇒ [] ∷ 2 ⇒ [] ∷ []) ≡ 1
unfolding depth_by
three-flat = refl

-- 0 → 0: it has no tree, so the depth is 0
pub none-nullable : depth_by (0 ⇒ (nonterminal 0 ∷ []) ∷ []) ≡ 0
unfolding depth_by
none-nullable = refl
