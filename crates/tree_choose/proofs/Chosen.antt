-- The rule and the end that are chosen, by the tests that the code makes. Assumes nothing.
use Prim.Native.Nat.{ℕ, ◌+◌, ◌≤◌, ◌<◌}
use mathlib.Core.Bool.{Bool, true, false}
use mathlib.Core.List.{List}
use mathlib.Core.Logic.{◌≢◌}
use mathlib.Core.Path.{◌≡◌, sym, ap, ◌∙◌}
use native.Mathlib.Omega.{arith}
use lib.ListN.{get_or}
use Rattle.laws.proofs.Lists.{below_step}
use Rattle.theory_costs.specs.Cut.{within}
use Rattle.theory_costs.proofs.Within.{within-whole, within-part}
use Rattle.table_layout.specs.Layout.{cost_in, full_in}
use Rattle.tree_choose.specs.Chosen.{RuleBeyond, RuleTested, RulesPassed, RuleChosen, EndsTooCostly, EndChosen, sum_at}

-- ---- a rule

module _ {p : List ℕ} {k : ℕ} {full tables : List ℕ} {i j budget : ℕ} where
  pub passed_none : {rules from : ℕ} → RulesPassed p rules from k full tables i j budget from
  passed_none = record { start = omega arith; beyond = λ s u l _. absurd (omega arith) }

  module _ {rules from r : ℕ} where
    pub passed-more : {b : Bool} → RuleTested p k full tables i j budget r b → b ≡ false
        → RulesPassed p rules from k full tables i j budget r → RulesPassed p rules from k full tables i j budget (r + 1)
    passed-more W e P = record {
      start = omega (arith, P.start);
      beyond = λ s u l m. below_step (λ (s : ℕ). from ≤ s → s < rules → RuleBeyond p k full tables i j budget s) r
          (λ s l u m. P.beyond s u l m) (λ u m. W.no e) s l u m;
    }

    pub rule_found : {b : Bool} → RuleTested p k full tables i j budget r b → b ≡ true → RulesPassed p rules from k full tables i j budget r
        → RuleChosen p rules from k full tables i j budget r
    rule_found W e P = record { fits = λ _. W.yes e; early = P }

-- ---- an end

module _ (tables full : List ℕ) (k i a j b : ℕ) where
  pub piece-later : {v : ℕ} → i ≤ a → a ≤ b → b ≤ j → a ≢ i → v ≡ cost_in tables k a b
      → v ≡ within i j (full_in full) (cost_in tables) k a b
  piece-later h l m n e = let x : ¬ (a ≡ i) = n in e ∙ sym (within-part i j (full_in full) (cost_in tables) k a b (omega arith))

  pub piece-short : {v : ℕ} → i ≤ a → a ≤ b → b ≤ j → b ≢ j → v ≡ cost_in tables k a b
      → v ≡ within i j (full_in full) (cost_in tables) k a b
  piece-short h l m n e = let x : ¬ (b ≡ j) = n in e ∙ sym (within-part i j (full_in full) (cost_in tables) k a b (omega arith))

  pub piece-whole : {v : ℕ} → a ≡ i → b ≡ j → v ≡ full_in full k → v ≡ within i j (full_in full) (cost_in tables) k a b
  piece-whole e d f =
      f ∙ sym (ap (λ (x : ℕ). within i j (full_in full) (cost_in tables) k x b) e
      ∙ ap (λ (x : ℕ). within i j (full_in full) (cost_in tables) k i x) d ∙ within-whole i j (full_in full) (cost_in tables) k)

module _ {tables full : List ℕ} {k i a from j : ℕ} {rows : List ℕ} {at budget : ℕ} where
  pub ends_none : EndsTooCostly tables full k i a from j rows at budget from
  ends_none = record { beyond = λ c l m n. absurd (omega arith) }

  -- v is the cost of the child up to b, n the cost of the child and the places after it
  module _ {b v n : ℕ} (e : v ≡ within i j (full_in full) (cost_in tables) k a b) (f : n ≡ v + get_or rows (at + b) 0) where
    pub ends_more : budget < n → EndsTooCostly tables full k i a from j rows at budget b
        → EndsTooCostly tables full k i a from j rows at budget (b + 1)
    ends_more l P = record {
      beyond = λ c x y z. below_step (λ (c : ℕ). from ≤ c → c ≤ j → budget < sum_at tables full k i a j rows at c) b
          (λ c y x z. P.beyond c x y z) (λ x z. omega arith) c y x z;
    }

  pub end_none : {b : ℕ} → from ≤ b → j < b → EndsTooCostly tables full k i a from j rows at budget b
      → EndChosen tables full k i a from j rows at budget b
  end_none h l P = record { start = h; fits = λ m. absurd (omega arith); early = P }
