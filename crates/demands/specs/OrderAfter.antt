-- The refusals after the checks 8 to 11: 12 for offered derivations and 13 for trees, given exactly where they apply. Assumes nothing.
use Rattle.std.specs.Prelude.{ℕ, List, ◌⊎◌, ◌≡◌}
use Rattle.cfg.specs.Grammar.{Cfg}
use Rattle.cfg.specs.Tree.{HasTree}
use Rattle.cfg.specs.Derivation.{Derivation, limit}
use Rattle.results.specs.Answer.{Answer, refused}

-- next, length and same build, once the checks before are passed (`ready`); `offered` says that the rows offered are derivations
pub record OfferedOrder {A : Type 0} (ready offered : Type 0) (answer : Answer A) : Type 0 where
  -- a row offered is no derivation: 12
  pub twelve : ready → (offered → ⊥) → answer ≡ refused 12
  -- else nothing is refused
  pub passed : ready → offered → (n : ℕ) → answer ≡ refused n → ⊥

-- first and count, once the checks before are passed
pub record TreesOrder {A : Type 0} (ready : Type 0) (G : Cfg) (w : List ℕ) (answer : Answer A) : Type 0 where
  -- the input has a tree and no derivation: 13
  pub thirteen : ready → HasTree G w → ((e : List ℕ) → Derivation G limit w e → ⊥) → answer ≡ refused 13
  -- it has no tree, or a derivation: nothing is refused
  pub passed : ready → (HasTree G w → ⊥) ⊎ ((e : List ℕ) × Derivation G limit w e) → (n : ℕ) → answer ≡ refused n → ⊥
