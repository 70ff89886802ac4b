-- The tests of one place of a rule and the adding of its left side, as the branches of the code make them. Assumes nothing.
use Prim.Native.Nat.{ℕ, ◌+◌, ◌≤◌, ◌<◌}
use mathlib.Core.Bool.{Bool, true, false, ◌&&◌, ◌||◌}
use mathlib.Core.List.{List}
use mathlib.Core.Path.{◌≡◌, sym, ap, ◌∙◌, subst}
use borrow.Author.Tests.{lt-ltb, le-ltb}
use Rattle.sets.specs.Set.{has, insert}
use Rattle.cfg.specs.Grammar.{Symbol, nonterminal, terminal}
use Rattle.packed.specs.Packed.{left_in, is_nonterminal_in, value_in, symbol_in}
use Rattle.packed.proofs.Fitting.{symbol-nonterminal, symbol-terminal}
use Rattle.fill_rule.specs.Passes.{place_cuts, added_in}

-- ---- whether a place and those after it cut the span

module _ (p : List ℕ) (r q empty own inner last v : ℕ) (b : Bool) (e : b ≡ has q inner) where
  any-inner : (s : Symbol) → has q inner ≡ true → true ≡ place_cuts s q empty own inner last v
  any-inner (terminal t) h = sym h
  any-inner (nonterminal k) h = rw h

  pub placed-inner : b ≡ true → true ≡ place_cuts (symbol_in p r q) q empty own inner last v
  placed-inner h = any-inner (symbol_in p r q) (sym e ∙ h)

  module _ (f : b ≡ false) (t : Bool) (g : t ≡ is_nonterminal_in p r q) where
    node : (k : ℕ) → t ≡ true → k ≡ value_in p r q → place_cuts (symbol_in p r q) q empty own inner last v
        ≡ ((has k empty && has (q + 1) v) || (has k own && has (q + 1) last))
    node k h d = ap (λ (s : Symbol). place_cuts s q empty own inner last v)
        (symbol-nonterminal p r q (sym g ∙ h) ∙ ap nonterminal (sym d)) ∙ rw (sym e ∙ f)

    pub placed-empty : (k : ℕ) (x : Bool) → t ≡ true → k ≡ value_in p r q → x ≡ (has k empty && has (q + 1) v) → x ≡ true
        → true ≡ place_cuts (symbol_in p r q) q empty own inner last v
    placed-empty k x h d y z = sym (node k h d ∙ rw (sym y ∙ z))

    pub placed-whole : (k : ℕ) (x u : Bool) → t ≡ true → k ≡ value_in p r q → x ≡ (has k empty && has (q + 1) v) → x ≡ false
        → u ≡ (has k own && has (q + 1) last) → u ≡ place_cuts (symbol_in p r q) q empty own inner last v
    placed-whole k x u h d y z w = w ∙ sym (node k h d ∙ rw (sym y ∙ z))

    pub placed-terminal : t ≡ false → false ≡ place_cuts (symbol_in p r q) q empty own inner last v
    placed-terminal h = sym (ap (λ (s : Symbol). place_cuts s q empty own inner last v) (symbol-terminal p r q (sym g ∙ h)) ∙ sym e ∙ f)

-- ---- adding the left side

module _ (p : List ℕ) (r m own : ℕ) (b : Bool) (e : b ≡ has 0 m) where
  pub added-in : (k x : ℕ) → b ≡ true → k ≡ left_in p r → k < 32 → x ≡ insert k own → x ≡ added_in p r m own
  unfolding added_in
  added-in k x f d l g =
      g ∙ ap (λ (y : ℕ). insert y own) d
      ∙ sym (rw (sym e ∙ f, lt-ltb (left_in p r) 32 (subst (λ (y : ℕ). y < 32) d l)))

  pub added-high : (k : ℕ) → b ≡ true → k ≡ left_in p r → 32 ≤ k → own ≡ added_in p r m own
  unfolding added_in
  added-high k f d l = sym (rw (sym e ∙ f, le-ltb (left_in p r) 32 (subst (λ (y : ℕ). 32 ≤ y) d l)))

  pub added_none : b ≡ false → own ≡ added_in p r m own
  unfolding added_in
  added_none f = sym (rw (sym e ∙ f))
