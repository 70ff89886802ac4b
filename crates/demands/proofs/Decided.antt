-- A call that decides by a list of checks is decided by a list of causes, where each check fails exactly if its cause applies.
-- Assumes nothing.
use mathlib.Core.Bool.{true, false}
use mathlib.Core.List.{List, [], ◌∷◌, map}
use mathlib.Core.Logic.{◌↔◌}
use mathlib.Core.Path.{◌≡◌, refl}
use Rattle.laws.proofs.Bools.{bool_false}
use Rattle.results.specs.Answer.{Check, decide}
use Rattle.demands.specs.Cause.{Cause, cause, Decided}

-- a check fails exactly if a cause applies, and both have the same refusal
pub record Tells {A : Type 0} (k : Check A) (c : Cause A) : Type 0 where
  pub exact : (k.fails ≡ true) ↔ c.applies
  pub same : k.refusal ≡ c.refusal

-- each check of a list tells the cause at the same place of another list
abbrev pub AllTell : {A : Type 0} → List (Check A) → List (Cause A) → Type 0
AllTell [] [] = Unit {0}
AllTell [] (c ∷ causes) = ⊥
AllTell (k ∷ checks) [] = ⊥
AllTell (k ∷ checks) (c ∷ causes) = Tells k c × AllTell checks causes

-- a check is passed if its cause does not apply
tells-passed : {A : Type 0} {k : Check A} {c : Cause A} → Tells k c → (c.applies → ⊥) → k.fails ≡ false
tells-passed {A} {k} t f = bool_false k.fails (λ e. f (t.exact.0 e))

-- the part `told` of a call's result is decided by the causes, if `passed` holds of what comes after the checks
module _ {A B C : Type 0} (refuse : A → B) (go : Unit {0} → B) (told : B → C) (passed : C → Type 0) (holds : passed (told (go tt))) where
  pub decided : (checks : List (Check A)) (causes : List (Cause A)) → AllTell checks causes
      → Decided causes (λ a. told (refuse a)) passed (told (decide checks refuse go))
  unfolding decide Decided
  decided [] [] t = holds
  decided [] (c ∷ causes) t = elim t [ ]
  decided (k ∷ checks) [] t = elim t [ ]
  decided (k ∷ checks) (c ∷ causes) t = (
    λ a. rw (t.0.exact.1 a, t.0.same),
    λ f. rw (tells-passed t.0 f) (decided checks causes t.1),
  )

-- the cause that is just the failing of a check
abbrev pub failing : {A : Type 0} → Check A → Cause A
failing k = cause (k.fails ≡ true) k.refusal

pub all-failing : {A : Type 0} (checks : List (Check A)) → AllTell checks (map failing checks)
all-failing [] = tt
all-failing (k ∷ checks) = (record { exact = (λ e. e, λ e. e); same = refl }, all-failing checks)
