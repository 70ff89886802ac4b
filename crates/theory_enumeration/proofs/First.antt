-- The first code of a row and of a node, from the first codes of their parts. Assumes nothing.
use Prim.Native.Nat.{ℕ, ◌+◌, ◌-◌, ◌*◌, ◌≤◌, ◌<◌}
use mathlib.Core.Bool.{true, false}
use mathlib.Core.List.{List, [], ◌∷◌, ◌++◌}
use mathlib.Core.Path.{◌≡◌, refl}
use lib.ListN.{length, get_or}
use Rattle.sets.specs.Set.{has}
use Rattle.cfg.specs.Grammar.{Cfg, Symbol, nonterminal, terminal, Terminal, fits, Of}
use Rattle.cfg.specs.Tree.{end, code}
use Rattle.cfg.specs.Derivation.{◌≺◌}
use Rattle.theory_enumeration.specs.Rows.{Row, Tree, Below, Skipped, Share, SameSpan}
use Rattle.theory_enumeration.specs.Order.{NoForest, Min}
use Rattle.theory_enumeration.proofs.Prefixed.{prefixed-first}
use Rattle.theory_enumeration.proofs.Layered.{layered-first}
use Rattle.theory_enumeration.proofs.Joined.{joined-first}
use Rattle.theory_enumeration.proofs.Rows.{row-own, row-end, leaf-prefixed}
use Rattle.theory_enumeration.proofs.Cuts.{row-layered, row-joined, skipped-none}
use Rattle.theory_enumeration.proofs.Nodes.{node-layered, rule-prefixed, rule-none}

-- nothing is before the empty code
before-none : (x : List ℕ) → x ≺ [] → ⊥
before-none [] h = elim h [ ]
before-none (a ∷ x) h = elim h [ ]

module _ (G : Cfg) (w : List ℕ) (cover mask from to budget : ℕ) (known : to ≤ length w) where
  -- ---- the part of the mask that matters for a row over c bytes

  pub own_first : {c own : ℕ} (places : List Symbol) {e : List ℕ} → SameSpan cover mask c own → c ≤ cover → from + c ≡ to
      → Min (Row G w c own places from to budget) e → Min (Row G w cover mask places from to budget) e
  own_first places s l q = prefixed-first (row-own G w s l q known)

  -- ---- no places

  pub end-first : from ≡ to → Min (Row G w cover mask [] from to budget) []
  unfolding code
  end-first q = record {
    found = record { forest = end; member = row-end G w cover mask from to budget q; coded = refl };
    least = λ t r h. before-none (code t) h;
  }

  module _ (places : List Symbol) (rising : from ≤ to) where
    -- ---- a terminal and the rest

    pub leaf_first : (t : Terminal) {e : List ℕ} → from < to → fits t (get_or w from 0) ≡ true
        → Min (Row G w cover mask places (from + 1) to budget) e → Min (Row G w cover mask (terminal t ∷ places) from to budget) e
    leaf_first t h f = prefixed-first (leaf-prefixed G w cover mask from to budget places rising known t h f)

    -- ---- a nonterminal and the rest

    pub row_first : (k c share n : ℕ) {e f : List ℕ} → from + c ≤ to
        → ((d : ℕ) → d < c → Skipped G w cover mask k places from to budget d)
        → Share G w cover mask k places from to budget c share
        → Min (Tree G w cover mask k from (from + c) share) e → length e ≡ 2 * n
        → Min (Row G w cover mask places (from + c) to (budget - n)) f
        → Min (Row G w cover mask (nonterminal k ∷ places) from to budget) (e ++ f)
    row_first k c share n l s b m size r =
        layered-first (row-layered G w cover mask k places from to budget known rising) c
        (λ d h. skipped-none G w cover mask k places from to budget known rising d (λ _. s d h))
        (joined-first (row-joined G w cover mask k places from to budget known rising c share l b) m size r)

-- ---- a node over c bytes

module _ (G : Cfg) (w : List ℕ) (c mask k from to budget : ℕ) (size : from + c ≡ to) (known : to ≤ length w) where
  pub node-first : (r : ℕ) (o : Of G r k) {e : List ℕ} → has k mask ≡ false → 0 < budget
      → ((s : ℕ) → s < r → (p : Of G s k) → NoForest (Below G w c mask k from to budget p))
      → Min (Below G w c mask k from to budget o) e → Min (Tree G w c mask k from to budget) (c ∷ r ∷ e)
  node-first r o fresh room n m =
      layered-first (node-layered G w c mask k from to budget size known) r
      (λ s h. rule-none G w c mask k from to budget size known s (n s h))
      (prefixed-first (rule-prefixed G w c mask k from to budget size known o fresh room) m)
