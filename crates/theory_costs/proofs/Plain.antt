-- Least numbers of nodes are those of trees without superfluous recursion, and an empty mask changes nothing. Assumes nothing.
use Prim.Native.Nat.{ℕ, ◌≤◌}
use mathlib.Core.Bool.{true≢false}
use mathlib.Core.List.{List}
use mathlib.Core.Path.{sym, ◌∙◌, subst}
use native.Mathlib.Omega.{arith}
use Rattle.sets.specs.Set.{empty}
use Rattle.sets.proofs.Laws.{has-empty}
use Rattle.cfg.specs.Grammar.{Cfg, Symbol}
use Rattle.cfg.specs.Tree.{Forest, nodes}
use Rattle.theory_shrinking.proofs.Shrink.{shrink}
use Rattle.theory_costs.specs.Span.{Reads, FreeOver, RowOver, FreeRow, Least}
use Rattle.theory_costs.specs.Solve.{PlainRow}
use Rattle.theory_costs.proofs.Span.{least-same}

-- ---- without superfluous recursion

module _ {G : Cfg} {bytes : ℕ → ℕ → Type 0} {M n : ℕ} {places : List Symbol} {a b : ℕ} where
  -- a forest shrinks to one without superfluous recursion, which is still free of the mask
  pub row-shrinks : (f : Forest) → FreeRow G bytes M n places a b f → (g : Forest) × PlainRow G bytes M n places a b g × (nodes g ≤ nodes f)
  row-shrinks f (R, F) =
      let S = shrink G R.fitted in (
        S.row,
        (
          (
            record { fitted = S.fitted; reads = subst (Reads bytes b a) (sym S.same) R.reads },
            record { none = λ k e h. F.none k e (S.from k n h) },
          ),
          S.plain,
        ),
        S.fewer,
      )

  pub least-plain : {v : ℕ} → Least (FreeRow G bytes M n places a b) v → Least (PlainRow G bytes M n places a b) v
  least-plain = least-same row-shrinks (λ f P. (f, P.0, omega arith))

-- ---- without a mask

pub free-empty : (G : Cfg) (n : ℕ) (f : Forest) → FreeOver G empty n f
free-empty G n f = record { none = λ k e h. true≢false (sym e ∙ has-empty k) }

module _ {G : Cfg} {bytes : ℕ → ℕ → Type 0} {n : ℕ} {places : List Symbol} {a b v : ℕ} where
  pub least-unmasked : Least (FreeRow G bytes empty n places a b) v → Least (RowOver G bytes places a b) v
  least-unmasked = least-same (λ f P. (f, P.0, omega arith)) (λ f R. (f, (R, free-empty G n f), omega arith))

  pub unmasked-least : Least (RowOver G bytes places a b) v → Least (FreeRow G bytes empty n places a b) v
  unmasked-least = least-same (λ f R. (f, (R, free-empty G n f), omega arith)) (λ f P. (f, P.0, omega arith))
