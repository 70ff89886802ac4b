-- The steps of the last node of a row, with premises as the code gives them: there is none, or it moves, or it is last. Assumes nothing.
use Prim.Native.Nat.{ℕ, ◌+◌, ◌-◌, ◌≤◌, ◌<◌}
use mathlib.Core.List.{List, [], ◌∷◌}
use mathlib.Core.Path.{◌≡◌}
use native.Mathlib.Omega.{arith}
use lib.ListN.{length}
use Rattle.cfg.specs.Grammar.{nonterminal}
use Rattle.cfg.specs.Tree.{Forest, code}
use Rattle.theory_enumeration.specs.Rows.{Tree, SameSpan}
use Rattle.theory_enumeration.proofs.Rows.{row-narrower}
use Rattle.theory_enumeration.proofs.Next.{own-next, own-last}
use Rattle.tree_size.specs.Standing.{StandsAt}
use Rattle.table_layout.specs.Exact.{Packing}
use Rattle.tree_first.specs.Descend.{InputGiven}
use Rattle.tree_first.proofs.Codes.{kept-none}
use Rattle.std.specs.Prelude.{Some, None}
use Rattle.tree_read.specs.declared.reach.Found.{Found}
use Rattle.tree_read.specs.Reached.{LastNode, LastReached, nowhere}
use Rattle.tree_later.specs.Beyond.{NextAt}
use Rattle.tree_later.proofs.Codes.{kept_then, next-same}
use Rattle.tree_next.specs.Advance.{NodeNext, LastNext}
use Rattle.tree_read.proofs.Reaching.{reach-room, reach-found}

-- a node of k alone, up to b: what comes after it under the part of the mask that matters for it also comes after it under the whole mask
last-next : {p : List ℕ} {rules : ℕ} {fits chart tables : List ℕ} {i j mask k a b own budget at : ℕ} {n : ℕ}
    {buf₀ buf w : List ℕ} {f : Forest} → i ≤ a → a ≤ b → b ≤ j → j ≤ length w → SameSpan (j - i) mask (b - a) own
    → NodeNext p rules fits chart tables k a b own budget at buf₀ buf n → InputGiven p rules fits chart tables w
    → Tree (Packing p) w (j - i) mask k a b budget f → StandsAt buf₀ at (code f)
    → NextAt (Tree (Packing p) w (j - i) mask k a b budget) (code f) buf at n
last-next {p} {i = i} {j} {mask} {k} {a} {b} {budget = budget} {w = w} {f} h u v known same N G T S =
    next-same (own-last (Packing p) w (j - i) mask a b budget (omega arith) (nonterminal k ∷ []) same (omega arith) (omega arith))
    (λ e. own-next (Packing p) w (j - i) mask a b budget (omega arith) (nonterminal k ∷ []) same (omega arith) (omega arith))
    (N.exact w G (omega arith) f (row-narrower (Packing p) w same (omega arith) (omega arith) (omega arith) f T) S)

module _ {p : List ℕ} {rules : ℕ} {fits chart tables : List ℕ} {r i j mask budget at : ℕ} {buf₀ : List ℕ} where
  pub last_none : LastReached p r 0 buf₀ at i j budget None → LastNext p rules fits chart tables r i j mask budget at buf₀ buf₀ 0
  last_none (nowhere H) =
      record { kept = kept-none; none = λ _ w G known f F S. H w (j - i) mask f known F S; some = λ h. absurd (omega arith) }

  module _ {there : Found} {own n : ℕ} {buf : List ℕ} (R : LastReached p r 0 buf₀ at i j budget (Some there))
      (same : SameSpan (j - i) mask (there.b - there.a) own)
      (N : NodeNext p rules fits chart tables there.k there.a there.b own there.budget there.at buf₀ buf n) where
    found-next : {w : List ℕ} {f : Forest} → InputGiven p rules fits chart tables w → j ≤ length w
        → (L : LastNode p w (j - i) mask r 0 i j budget f buf₀ at there.k there.a there.b there.at there.budget)
        → NextAt (Tree (Packing p) w (j - i) mask there.k there.a there.b there.budget) (code L.tree) buf there.at n
    found-next G known L =
        let (x, y, z, u, v) = reach-room R in
        last-next x y z known same N G L.child L.here

    pub last-still : n ≡ 0 → LastNext p rules fits chart tables r i j mask budget at buf₀ buf 0
    last-still m = record {
      kept = kept_then m N.kept kept-none;
      none = λ _ w G known f F S. let L = reach-found R known F S in L.last ((found-next G known L).none m);
      some = λ h. absurd (omega arith);
    }

    pub last-moves : 0 < n → LastNext p rules fits chart tables r i j mask budget at buf₀ buf (there.at - at + n)
    last-moves m =
        let (x, y, z, u, v) = reach-room R in
        let K = N.kept in
        record {
          kept = record {
            long = K.long;
            few = omega (arith, K.few);
            before = λ x h. K.before x (omega arith);
            after = λ x h. K.after x (omega arith);
          };
          none = λ h. absurd (omega arith);
          some = λ _ w G known f F S. let L = reach-found R known F S in L.moves buf n K.before ((found-next G known L).some m);
        }
