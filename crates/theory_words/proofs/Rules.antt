-- The rules of a forest. In one that fits, each is a rule of the grammar. Assumes nothing.
use Prim.Native.Nat.{ℕ, zero, suc, ◌≤◌, ◌<◌}
use native.Mathlib.Omega.{arith}
use mathlib.Core.List.{List, [], ◌∷◌}
use mathlib.Core.Option.{Option, some}
use mathlib.Core.Path.{◌≡◌}
use lib.ListN.{length, get_elem?}
use Rattle.laws.proofs.Bools.{clash}
use Rattle.cfg.specs.Grammar.{Cfg, Rule, Symbol, joined}
use Rattle.cfg.specs.Tree.{Forest, end, leaf, node, Fits, fits_end, fits_leaf, fits_node}

-- each node's rule is below n
pub data RulesBelow (n : ℕ) : Forest → Type 0 where
  below_end : RulesBelow n end
  below-leaf : {m : ℕ} {rest : Forest} → RulesBelow n rest → RulesBelow n (leaf m rest)
  below-node : {r : ℕ} {below rest : Forest} → r < n → RulesBelow n below → RulesBelow n rest → RulesBelow n (node r below rest)

-- a number with a rule is a number of the list
rule-below : (l : List (Option Rule)) (r : ℕ) (ρ : Rule) → joined (get_elem? l r) ≡ some ρ → r < length l
unfolding joined
rule-below [] r ρ e = clash cc
rule-below (o ∷ l) zero ρ e = omega arith
rule-below (o ∷ l) (suc r) ρ e = let h = rule-below l r ρ e in omega arith

pub fits_below : {G : Cfg} {places : List Symbol} {t : Forest} (n : ℕ) → length G.rules ≤ n → Fits G places t → RulesBelow n t
fits_below n h fits_end = below_end
fits_below n h (fits_leaf _ f) = below-leaf (fits_below n h f)
fits_below {G} n h (fits_node {r = r} o f g) =
    let i = rule-below G.rules r o.the o.here in
    below-node {r = r} (omega arith) (fits_below n h f) (fits_below n h g)
