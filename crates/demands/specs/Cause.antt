-- Causes of refusals in their order: the first that applies decides. Assumes nothing.
use Rattle.std.specs.Prelude.{List, [], ◌∷◌, ◌≡◌}

-- a cause: when it applies, and what is refused then
pub record Cause (A : Type 0) : Type 1 where
  pub applies : Type 0
  pub refusal : A

abbrev pub cause : {A : Type 0} → Type 0 → A → Cause A
cause p a = record { applies = p; refusal = a }

-- the answer is the refusal of the first cause that applies; if none applies, `passed` holds of it
unfoldable pub Decided : {A B : Type 0} → List (Cause A) → (A → B) → (B → Type 0) → B → Type 0
Decided [] refuse passed answer = passed answer
Decided (c ∷ causes) refuse passed answer =
    (c.applies → answer ≡ refuse c.refusal) × ((c.applies → ⊥) → Decided causes refuse passed answer)
