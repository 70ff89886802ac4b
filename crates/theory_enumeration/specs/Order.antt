-- The first code of a set of forests, the code after a given one, and when there is none after it. Assumes nothing.
use Rattle.std.specs.Prelude.{ℕ, ◌≤◌, List, ◌≡◌}
use Rattle.cfg.specs.Tree.{Forest, nodes, code}
use Rattle.cfg.specs.Derivation.{◌≺◌}

-- e is the code of a forest of P
pub record Coded (P : Forest → Type 0) (e : List ℕ) : Type 0 where
  pub forest : Forest
  pub member : P forest
  pub coded : code forest ≡ e

-- no forest is in P
abbrev pub NoForest : (Forest → Type 0) → Type 0
NoForest P = (t : Forest) → P t → ⊥

-- each forest of P has at least v nodes
abbrev pub AtLeast : (Forest → Type 0) → ℕ → Type 0
AtLeast P v = (t : Forest) → P t → v ≤ nodes t

-- e is the code of a forest of P, and no forest of P has a smaller one
pub record Min (P : Forest → Type 0) (e : List ℕ) : Type 0 where
  pub found : Coded P e
  pub least : (t : Forest) → P t → code t ≺ e → ⊥

-- e is the code of a forest of P after d, and no forest of P has a code between the two
pub record After (P : Forest → Type 0) (d e : List ℕ) : Type 0 where
  pub found : Coded P e
  pub beyond : d ≺ e
  pub nearest : (t : Forest) → P t → d ≺ code t → code t ≺ e → ⊥

-- no forest of P has a code after d
abbrev pub Last : (Forest → Type 0) → List ℕ → Type 0
Last P d = (t : Forest) → P t → d ≺ code t → ⊥
