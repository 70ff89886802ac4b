-- What one round of the rules gives: a nonterminal is in the set exactly if one of its rules cuts the span. If each rule's left side is
-- below 32, the set is a word of 32 bits. Assumes nothing.
use Prim.Native.Nat.{ℕ, zero, suc, ◌^◌, ◌<◌}
use mathlib.Core.Bool.{true, false, false≢true}
use mathlib.Core.List.{List, [], ◌∷◌}
use mathlib.Core.Logic.{dite}
use mathlib.Core.Option.{Option, none, some, some-injective, none-ne-some}
use mathlib.Core.Path.{◌≡◌, refl, sym, ap, ◌∙◌, subst}
use native.Mathlib.Decide.{ℕ_discrete}
use native.Mathlib.Omega.{arith}
use lib.ListN.{get_elem?}
use Rattle.laws.proofs.Bools.{by-test}
use Rattle.sets.specs.Set.{has, insert}
use Rattle.sets.proofs.Laws.{has-empty, has-insert-same, has-insert-other, has-insert, insert-lt}
use Rattle.cfg.specs.Grammar.{Cfg, Rule, Symbol, joined, Of}
use Rattle.chart.specs.Cell.{Fit, cuts, derived}

-- each rule's left side is below 32
abbrev pub Bounded : Cfg → Type 0
Bounded G = (r k : ℕ) → Of G r k → k < 32

-- number r among the rules is ρ
abbrev pub At : List (Option Rule) → ℕ → Rule → Type 0
At rules r ρ = joined (get_elem? rules r) ≡ some ρ

pub bounded_at : (G : Cfg) → Bounded G → (r : ℕ) (ρ : Rule) → At G.rules r ρ → ρ.left < 32
bounded_at G h r ρ e = h r ρ.left (record { the = ρ; here = e; left = refl })

module _ (fit : Fit) (sets : ℕ → ℕ → ℕ) (a n : ℕ) where
  -- a rule of k that cuts the span from a to n
  abbrev pub By : List (Option Rule) → ℕ → Type 0
  By rules k = (r : ℕ) × (ρ : Rule) × At rules r ρ × (ρ.left ≡ k) × (cuts fit sets ρ.places a n ≡ true)

  -- one more rule in front, by whether it cuts the span
  module _ (ρ : Rule) (rules : List (Option Rule)) where
    derived-cut : cuts fit sets ρ.places a n ≡ true
        → derived fit sets (some ρ ∷ rules) a n ≡ insert ρ.left (derived fit sets rules a n)
    unfolding derived
    derived-cut q = rw (q, derived)

    derived-not : cuts fit sets ρ.places a n ≡ false → derived fit sets (some ρ ∷ rules) a n ≡ derived fit sets rules a n
    unfolding derived
    derived-not q = rw (q, derived)

  later : (o : Option Rule) (rules : List (Option Rule)) (k : ℕ) → By rules k → By (o ∷ rules) k
  later o rules k (r, ρ, e, l, c) = (suc r, ρ, e, l, c)

  pub derived-by : (rules : List (Option Rule)) (k : ℕ) → has k (derived fit sets rules a n) ≡ true → By rules k
  unfolding derived joined
  derived-by [] k e = absurd (false≢true (sym (has-empty k) ∙ e))
  derived-by (none ∷ rules) k e = later none rules k (derived-by rules k e)
  derived-by (some ρ ∷ rules) k e = by-test (cuts fit sets ρ.places a n)
      (λ q. dite (ℕ_discrete k ρ.left) (λ p. (0, ρ, refl, sym p, q)) (λ p. later (some ρ) rules k (derived-by rules k
      (sym (ap (has k) (derived-cut ρ rules q) ∙ has-insert-other k ρ.left (derived fit sets rules a n) p) ∙ e))))
      (λ q. later (some ρ) rules k (derived-by rules k (sym (ap (has k) (derived-not ρ rules q)) ∙ e)))

  pub by-derived : (rules : List (Option Rule)) (r : ℕ) (ρ : Rule) → At rules r ρ → cuts fit sets ρ.places a n ≡ true
      → has ρ.left (derived fit sets rules a n) ≡ true
  unfolding derived joined
  by-derived [] r ρ e c = absurd (none-ne-some ρ e)
  by-derived (none ∷ rules) zero ρ e c = absurd (none-ne-some ρ e)
  by-derived (none ∷ rules) (suc r) ρ e c = by-derived rules r ρ e c
  by-derived (some σ ∷ rules) zero ρ e c =
      let s : ρ ≡ σ = sym (some-injective σ ρ e) in
      let d = derived-cut σ rules (subst (λ (τ : Rule). cuts fit sets τ.places a n ≡ true) s c) in
      ap (λ (τ : Rule). has τ.left (derived fit sets (some σ ∷ rules) a n)) s
      ∙ ap (has σ.left) d ∙ has-insert-same σ.left (derived fit sets rules a n)
  by-derived (some σ ∷ rules) (suc r) ρ e c = let h = by-derived rules r ρ e c in by-test (cuts fit sets σ.places a n)
      (λ q. ap (has ρ.left) (derived-cut σ rules q) ∙ has-insert ρ.left σ.left (derived fit sets rules a n) h)
      (λ q. ap (has ρ.left) (derived-not σ rules q) ∙ h)

  pub derived-lt : (rules : List (Option Rule)) → ((r : ℕ) (ρ : Rule) → At rules r ρ → ρ.left < 32)
      → derived fit sets rules a n < 2 ^ 32
  unfolding derived joined
  derived-lt [] h = omega arith
  derived-lt (none ∷ rules) h = derived-lt rules (λ r ρ e. h (suc r) ρ e)
  derived-lt (some ρ ∷ rules) h = let l = derived-lt rules (λ r σ e. h (suc r) σ e) in by-test (cuts fit sets ρ.places a n)
      (λ q. subst (λ (x : ℕ). x < 2 ^ 32) (sym (derived-cut ρ rules q)) (insert-lt ρ.left (derived fit sets rules a n) (h 0 ρ refl) l))
      (λ q. subst (λ (x : ℕ). x < 2 ^ 32) (sym (derived-not ρ rules q)) l)

-- rules that cut the same spans give the same set
pub derived-cong : (fit fit' : Fit) (sets sets' : ℕ → ℕ → ℕ) (a n : ℕ)
    → ((places : List Symbol) → cuts fit sets places a n ≡ cuts fit' sets' places a n)
    → (rules : List (Option Rule)) → derived fit sets rules a n ≡ derived fit' sets' rules a n
unfolding derived
derived-cong fit fit' sets sets' a n h [] = refl
derived-cong fit fit' sets sets' a n h (none ∷ rules) = derived-cong fit fit' sets sets' a n h rules
derived-cong fit fit' sets sets' a n h (some ρ ∷ rules) =
    let e = derived-cong fit fit' sets sets' a n h rules in
    λ i. elim (h ρ.places i) [ true ↦ insert ρ.left (e i) | false ↦ e i ]
