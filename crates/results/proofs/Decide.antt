-- The law of `decide`: the first check that fails decides; if all are passed, the call goes on. Assumes nothing.
use mathlib.Core.Bool.{true, false}
use mathlib.Core.List.{List, [], ◌∷◌, ◌++◌}
use mathlib.Core.Path.{◌≡◌, refl}
use Rattle.laws.proofs.Bools.{by-test}
use Rattle.results.specs.Answer.{Check, decide}

-- Q holds of each check of a list
abbrev pub Each : {A : Type 0} → (Check A → Type 0) → List (Check A) → Type 0
Each Q [] = Unit {0}
Each Q (c ∷ checks) = Q c × Each Q checks

-- no check of the list fails
abbrev pub Pass : {A : Type 0} → List (Check A) → Type 0
Pass {A} checks = Each (λ (c : Check A). c.fails ≡ false) checks

-- two lists of checks that agree one by one: two checks are the same, or both are passed
pub data Agree (A : Type 0) : List (Check A) → List (Check A) → Type 0 where
  agree-end : Agree A [] []
  agree_same : {l m : List (Check A)} (c : Check A) → Agree A l m → Agree A (c ∷ l) (c ∷ m)
  agree-passed : {l m : List (Check A)} {c d : Check A} → c.fails ≡ false → d.fails ≡ false → Agree A l m → Agree A (c ∷ l) (d ∷ m)

each : {A : Type 0} {Q : Check A → Type 0} → ((c : Check A) → Q c) → (checks : List (Check A)) → Each Q checks
each f [] = tt
each f (c ∷ checks) = (f c, each f checks)

module _ {A B : Type 0} (refuse : A → B) (go : Unit {0} → B) where
  -- the first check that fails decides
  pub decide-first : (before : List (Check A)) (c : Check A) (after : List (Check A)) → Pass before → c.fails ≡ true
      → decide (before ++ c ∷ after) refuse go ≡ refuse c.refusal
  unfolding decide
  decide-first [] c after p e = rw e
  decide-first (b ∷ before) c after p e = rw p.0 (decide-first before c after p.1 e)

  -- without a failing check the call goes on
  pub decide-passed : (checks : List (Check A)) → Pass checks → decide checks refuse go ≡ go tt
  unfolding decide
  decide-passed [] p = refl
  decide-passed (c ∷ checks) p = rw p.0 (decide-passed checks p.1)

  -- two lists of checks that agree decide the same
  pub decide-agree : {l m : List (Check A)} → Agree A l m → decide l refuse go ≡ decide m refuse go
  unfolding decide
  decide-agree agree-end = refl
  decide-agree (agree-passed p q a) = rw (p, q) (decide-agree a)
  decide-agree (agree_same c a) = by-test c.fails (λ e. rw e) (λ e. rw e (decide-agree a))

  module _ (P : B → Type 0) where
    -- what holds of the refusal of each check that may fail, and of what comes after the checks, holds of the result
    pub decide-cases : (checks : List (Check A)) → Each (λ (c : Check A). c.fails ≡ true → P (refuse c.refusal)) checks
        → (Pass checks → P (go tt)) → P (decide checks refuse go)
    unfolding decide
    decide-cases [] r g = g tt
    decide-cases (c ∷ checks) r g =
        by-test c.fails (λ e. rw e (r.0 e)) (λ e. rw e (decide-cases checks r.1 (λ p. g (e, p))))

    -- the same, if P holds of every refusal
    pub decide-either : (checks : List (Check A)) → ((a : A) → P (refuse a)) → (Pass checks → P (go tt)) → P (decide checks refuse go)
    decide-either checks r g = decide-cases checks (each (λ c e. r c.refusal) checks) g

-- two calls with the same checks: what holds of both refusals of a check, and of what comes after the checks, holds of both results
pub decide-both : {A B C : Type 0} (P : B → C → Type 0) (refuse : A → B) (refuse' : A → C) (go : Unit {0} → B) (go' : Unit {0} → C)
    (checks : List (Check A)) → ((a : A) → P (refuse a) (refuse' a)) → P (go tt) (go' tt)
    → P (decide checks refuse go) (decide checks refuse' go')
unfolding decide
decide-both P refuse refuse' go go' [] r g = g
decide-both P refuse refuse' go go' (c ∷ checks) r g =
    by-test c.fails (λ e. rw e (r c.refusal)) (λ e. rw e (decide-both P refuse refuse' go go' checks r g))
