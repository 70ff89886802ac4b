-- The kinds of a rule, gathered place by place: what the steps of the code give. Assumes nothing.
use Prim.Native.Nat.{ℕ, ◌+◌, ◌≤◌, ◌<◌}
use mathlib.Core.Bool.{Bool, true, false}
use mathlib.Core.List.{List}
use mathlib.Core.Path.{◌≡◌, sym, ap, ◌∙◌, subst}
use native.Mathlib.Omega.{arith}
use lib.ListN.{length, get_or}
use Rattle.sizes.specs.Sizes.{max_rules}
use Rattle.laws.proofs.Bools.{true-false, clash}
use Rattle.sets.specs.Set.{has, insert}
use Rattle.sets.proofs.Laws.{has-insert, has-insert-same}
use Rattle.cfg.specs.Grammar.{nonterminal}
use Rattle.packed.specs.Packed.{symbol_in, is_nonterminal_in, value_in}
use Rattle.packed.proofs.Fitting.{symbol-nonterminal, symbol-terminal}
use Rattle.fill_empty.specs.Empty.{Kinds, KindAt, KindsAll}

module _ (p : List ℕ) (r q last v : ℕ) where
  -- if the place has no nonterminal that counts, nothing is added
  kind-skip : ((k : ℕ) → symbol_in p r q ≡ nonterminal k → k < 32 → has (q + 1) last ≡ true → ⊥) → KindAt p r q last v v
  kind-skip none = record { keeps = λ k h. h; here = λ k e l h. absurd (none k e l h) }

  pub kind-behind : (f : Bool) → f ≡ has (q + 1) last → f ≡ false → KindAt p r q last v v
  kind-behind f e g = kind-skip (λ k _ _ h. true-false h (sym e ∙ g))

  pub kind-terminal : (t : Bool) → t ≡ is_nonterminal_in p r q → t ≡ false → KindAt p r q last v v
  kind-terminal t e g = kind-skip (λ k d _ _. clash (cc (symbol-terminal p r q (sym e ∙ g))))

  module _ (t : Bool) (e : t ≡ is_nonterminal_in p r q) (g : t ≡ true) (k : ℕ) (f : k ≡ value_in p r q) where
    same : (j : ℕ) → symbol_in p r q ≡ nonterminal j → j ≡ k
    same j d = cc (symbol-nonterminal p r q (sym e ∙ g))

    pub kind-high : 32 ≤ k → KindAt p r q last v v
    kind-high l = kind-skip (λ j d b _. omega (arith, same j d))

    pub kind-in : (x : ℕ) → x ≡ insert k v → KindAt p r q last v x
    kind-in x d = record {
      keeps = λ j h. ap (has j) d ∙ has-insert j k v h;
      here = λ j s _ _. ap (has j) d ∙ subst (λ (y : ℕ). has y (insert k v) ≡ true) (sym (same j s)) (has-insert-same k v);
    }

module _ (p : List ℕ) (r last : ℕ) where
  -- the kinds of the places below m
  pub record KindsTo (m v : ℕ) : Type 0 where
    pub done : (q k : ℕ) → q < m → symbol_in p r q ≡ nonterminal k → k < 32 → has (q + 1) last ≡ true → has k v ≡ true

module _ (p : List ℕ) (rules : ℕ) (lasts : List ℕ) where
  -- the kinds of the rules below m
  pub record AllTo (m : ℕ) (kinds : List ℕ) : Type 0 where
    pub long : length kinds ≡ max_rules
    pub done : (r : ℕ) → r < m → Kinds p r (get_or lasts r 0) (get_or kinds r 0)

  pub all_done : (m : ℕ) (kinds : List ℕ) → rules ≤ m → AllTo m kinds → KindsAll p rules lasts kinds
  all_done m kinds h to = record { long = to.long; each = λ r l. to.done r (omega arith) }
