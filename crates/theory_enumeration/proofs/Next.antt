-- The code after that of a given row or node, from the codes of its parts: the last part that has a next code changes. If none has one,
-- the given code is the last. Assumes nothing.
use Prim.Native.Nat.{ℕ, ◌+◌, ◌-◌, ◌*◌, ◌≤◌, ◌<◌}
use mathlib.Core.Bool.{true, false}
use mathlib.Core.List.{List, [], ◌∷◌, ◌++◌}
use mathlib.Core.Path.{◌≡◌}
use lib.ListN.{length, get_or}
use Rattle.sets.specs.Set.{has}
use Rattle.cfg.specs.Grammar.{Cfg, Symbol, nonterminal, terminal, Terminal, fits, Of}
use Rattle.cfg.specs.Tree.{Forest, code}
use Rattle.cfg.specs.Derivation.{◌≺◌}
use Rattle.theory_enumeration.specs.Rows.{Row, Tree, Below, Skipped, Share, SameSpan}
use Rattle.theory_enumeration.specs.Order.{Coded, NoForest, Min, After, Last}
use Rattle.theory_enumeration.proofs.Prefixed.{prefixed-coded, prefixed-first, prefixed-next, prefixed-last}
use Rattle.theory_enumeration.proofs.Layered.{layered-next, layered-later, layered-last}
use Rattle.theory_enumeration.proofs.Joined.{joined-coded, joined-first, joined-rest, joined-child, joined-last}
use Rattle.theory_enumeration.proofs.Rows.{row-own, leaf-prefixed}
use Rattle.theory_enumeration.proofs.Cuts.{Covering, row-layered, row-joined, skipped-none}
use Rattle.theory_enumeration.proofs.Nodes.{ByRule, node-layered, rule-prefixed, rule-none}

-- ---- no places: nothing is after the empty code

pub end-last : (P : Forest → Type 0) → Last P []
end-last P t p h = go (code t) h
  where
    go : (x : List ℕ) → [] ≺ x → ⊥
    go x = elim [ ]

module _ (G : Cfg) (w : List ℕ) (cover mask from to budget : ℕ) (known : to ≤ length w) where
  -- ---- the part of the mask that matters for a row over c bytes

  module _ {c own : ℕ} (places : List Symbol) (s : SameSpan cover mask c own) (narrow : c ≤ cover) (size : from + c ≡ to) where
    pub own-next : {d e : List ℕ} → After (Row G w c own places from to budget) d e → After (Row G w cover mask places from to budget) d e
    own-next = prefixed-next (row-own G w s narrow size known)

    pub own-last : {d : List ℕ} → Last (Row G w c own places from to budget) d → Last (Row G w cover mask places from to budget) d
    own-last = prefixed-last (row-own G w s narrow size known)

  module _ (places : List Symbol) (rising : from ≤ to) where
    -- ---- a terminal and the rest

    module _ (t : Terminal) (more : from < to) (fit : fits t (get_or w from 0) ≡ true) where
      pub leaf-next : {d e : List ℕ} → After (Row G w cover mask places (from + 1) to budget) d e
          → After (Row G w cover mask (terminal t ∷ places) from to budget) d e
      leaf-next = prefixed-next (leaf-prefixed G w cover mask from to budget places rising known t more fit)

      pub leaf_last : {d : List ℕ} → Last (Row G w cover mask places (from + 1) to budget) d
          → Last (Row G w cover mask (terminal t ∷ places) from to budget) d
      leaf_last = prefixed-last (leaf-prefixed G w cover mask from to budget places rising known t more fit)

    -- ---- a nonterminal and the rest: given are a first node over c bytes, with n nodes and the code d, and a rest with the code a

    module _ (k c share n : ℕ) {d a : List ℕ} (inside : from + c ≤ to) (b : Share G w cover mask k places from to budget c share)
        (x : Coded (Tree G w cover mask k from (from + c) share) d) (count : length d ≡ 2 * n)
        (y : Coded (Row G w cover mask places (from + c) to (budget - n)) a) where
      -- the given row is one of those whose first node covers c bytes
      pub row-coded : Coded (Covering G w cover mask k places from to budget c) (d ++ a)
      row-coded = joined-coded (row-joined G w cover mask k places from to budget known rising c share inside b) x count y

      -- the rest has a next code
      pub row-next-rest : {e : List ℕ} → After (Row G w cover mask places (from + c) to (budget - n)) a e
          → After (Row G w cover mask (nonterminal k ∷ places) from to budget) (d ++ a) (d ++ e)
      row-next-rest r =
          layered-next (row-layered G w cover mask k places from to budget known rising) c row-coded
          (joined-rest (row-joined G w cover mask k places from to budget known rising c share inside b) x count r)

      module _ (rest-last : Last (Row G w cover mask places (from + c) to (budget - n)) a) where
        -- the rest is last, and the first node has a next code
        pub row-next-child : (m : ℕ) {e f : List ℕ} → After (Tree G w cover mask k from (from + c) share) d e → length e ≡ 2 * m
            → Min (Row G w cover mask places (from + c) to (budget - m)) f
            → After (Row G w cover mask (nonterminal k ∷ places) from to budget) (d ++ a) (e ++ f)
        row-next-child m z count' r =
            layered-next (row-layered G w cover mask k places from to budget known rising) c row-coded
            (joined-child (row-joined G w cover mask k places from to budget known rising c share inside b) x count rest-last z count' r)

        module _ (child-last : Last (Tree G w cover mask k from (from + c) share) d) where
          -- no row whose first node covers c bytes is after it
          covering-last : Last (Covering G w cover mask k places from to budget c) (d ++ a)
          covering-last =
              joined-last (row-joined G w cover mask k places from to budget known rising c share inside b) x count rest-last child-last

          -- both are last, and the next wider cover that is possible is j
          pub row-next-cover : (j share' m : ℕ) {e f : List ℕ} → c < j → from + j ≤ to
              → ((i : ℕ) → c < i → i < j → Skipped G w cover mask k places from to budget i)
              → Share G w cover mask k places from to budget j share'
              → Min (Tree G w cover mask k from (from + j) share') e → length e ≡ 2 * m
              → Min (Row G w cover mask places (from + j) to (budget - m)) f
              → After (Row G w cover mask (nonterminal k ∷ places) from to budget) (d ++ a) (e ++ f)
          row-next-cover j share' m wider inside' s b' z count' r =
              layered-later (row-layered G w cover mask k places from to budget known rising) c j row-coded covering-last wider
              (λ i h l. skipped-none G w cover mask k places from to budget known rising i (λ _. s i h l))
              (joined-first (row-joined G w cover mask k places from to budget known rising j share' inside' b') z count' r)

          -- both are last, and no wider cover is possible
          pub row_last : ((i : ℕ) → c < i → from + i ≤ to → Skipped G w cover mask k places from to budget i)
              → Last (Row G w cover mask (nonterminal k ∷ places) from to budget) (d ++ a)
          row_last s =
              layered-last (row-layered G w cover mask k places from to budget known rising) c row-coded covering-last
              (λ i h. skipped-none G w cover mask k places from to budget known rising i (s i h))

-- ---- a node over c bytes: given is one of rule r, and the row below it has the code d

module _ (G : Cfg) (w : List ℕ) (c mask k from to budget : ℕ) (size : from + c ≡ to) (known : to ≤ length w) (fresh : has k mask ≡ false)
    (room : 0 < budget) (r : ℕ) (o : Of G r k) {d : List ℕ} (x : Coded (Below G w c mask k from to budget o) d) where
  -- the given node is one of rule r
  pub node-coded : Coded (ByRule G w c mask k from to budget r) (c ∷ r ∷ d)
  node-coded = prefixed-coded (rule-prefixed G w c mask k from to budget size known o fresh room) x

  -- the row below it has a next code
  pub node-next-below : {e : List ℕ} → After (Below G w c mask k from to budget o) d e
      → After (Tree G w c mask k from to budget) (c ∷ r ∷ d) (c ∷ r ∷ e)
  node-next-below a =
      layered-next (node-layered G w c mask k from to budget size known) r node-coded
      (prefixed-next (rule-prefixed G w c mask k from to budget size known o fresh room) a)

  module _ (below_last : Last (Below G w c mask k from to budget o) d) where
    -- no node of rule r is after it
    rule-last : Last (ByRule G w c mask k from to budget r) (c ∷ r ∷ d)
    rule-last = prefixed-last (rule-prefixed G w c mask k from to budget size known o fresh room) below_last

    -- the row below is last, and the next rule that is possible is s
    pub node-next-rule : (s : ℕ) (p : Of G s k) {e : List ℕ} → r < s
        → ((i : ℕ) → r < i → i < s → (q : Of G i k) → NoForest (Below G w c mask k from to budget q))
        → Min (Below G w c mask k from to budget p) e → After (Tree G w c mask k from to budget) (c ∷ r ∷ d) (c ∷ s ∷ e)
    node-next-rule s p later n m =
        layered-later (node-layered G w c mask k from to budget size known) r s node-coded rule-last later
        (λ i h l. rule-none G w c mask k from to budget size known i (n i h l))
        (prefixed-first (rule-prefixed G w c mask k from to budget size known p fresh room) m)

    -- the row below is last, and no later rule is possible
    pub node-last : ((i : ℕ) → r < i → (q : Of G i k) → NoForest (Below G w c mask k from to budget q))
        → Last (Tree G w c mask k from to budget) (c ∷ r ∷ d)
    node-last n =
        layered-last (node-layered G w c mask k from to budget size known) r node-coded rule-last
        (λ i h. rule-none G w c mask k from to budget size known i (n i h))
