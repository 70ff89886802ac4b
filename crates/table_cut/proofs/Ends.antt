-- The least cost at a nonterminal place is a running minimum over its ends. Assumes nothing.
use Prim.Native.Nat.{ℕ, suc, ◌+◌, ◌≤◌, ◌<◌, min}
use mathlib.Core.List.{List}
use mathlib.Core.Path.{◌≡◌, ap, ◌∙◌}
use native.Mathlib.Decide.{dec_lt}
use native.Mathlib.Omega.{arith}
use lib.ListN.{get_or}
use Rattle.sizes.specs.Sizes.{too_many}
use Rattle.theory_costs.specs.Cut.{Cost, First}
use Rattle.theory_costs.specs.Lowest.{Lowest, Seen, NoNumber}
use Rattle.theory_costs.proofs.Lowest.{seen_none, seen-pass}
use Rattle.theory_costs.proofs.Cut.{leastcut-node, first_step}
use Rattle.cfg.specs.Grammar.{Symbol}
use Rattle.chart.specs.Cell.{Fit}
use Rattle.table_layout.specs.Layout.{cost_in}
use Rattle.table_cut.specs.Suffix.{Behind, AtStart, AtNonterminal, EndsBefore}

module _ {tables : List ℕ} {k a from b last : ℕ} {rests : List ℕ} {at : ℕ} where
  -- the ends after a and before `from` cost too much
  module _ (fit : Fit) (cost : Cost) (places : List Symbol) (R : Behind fit cost k places a from b tables last rests at) where
    passed : {c u : ℕ} → a < c → c < from → c < b → First fit cost k places a b c u → too_many ≤ u
    passed {c} {u} h l m p =
        let x = R.passed k c h l m in
        let y = R.first c (omega arith) m in
        let z = (R.later c (omega arith) (omega arith)).below p.later p.cut in
        let w = p.sum in
        omega arith

    start : {v : ℕ} → a < from → a ≤ b → AtStart tables k a b rests at v → Dec (a < b)
        → Lowest (Seen NoNumber (First fit cost k places a b) a (min from b)) v
    start {v} h l A (yes m) =
        seen-pass (omega arith) (λ c u x y. passed (omega arith) (omega arith) (omega arith))
        (first_step (omega arith) seen_none (R.later a (omega arith) l)
        (ap (λ (u : ℕ). u + get_or rests (at + a) 0) (R.first a (omega arith) m)) (let e = A.before m in omega arith))
    start {v} h l A (no m) =
        let d : min from b ≡ a = omega arith in
        rw (d, A.none (omega arith)) seen_none

  pub ends-start : {v : ℕ} → a < from → a ≤ b → AtStart tables k a b rests at v → EndsBefore tables k a from b last rests at from v
  ends-start h l A = record { lowest = λ fit cost places R. start fit cost places R h l A (dec_lt a b) }

  -- x is the cost at the end c, y the sum of the two, each capped, z the smaller
  pub ends-step : {c v x y z : ℕ} → z ≡ min v y → EndsBefore tables k a from b last rests at c v → v ≤ too_many
      → y ≡ min x too_many + min (get_or rests (at + c) 0) too_many → x ≡ cost_in tables k a c → a ≤ c → c < b
      → EndsBefore tables k a from b last rests at (c + 1) z
  ends-step {c} {v} {x} {y} {z} g S t f e h l = record {
    lowest = λ fit cost places R.
        let d : min c b ≡ c = omega arith in
        let n : min (c + 1) b ≡ suc c = omega arith in
        rw n (first_step h (rw d at (S.lowest fit cost places R)) (R.later c h (omega arith))
        (ap (λ (u : ℕ). u + get_or rests (at + c) 0) (e ∙ R.first c h l)) (omega arith));
  }

  pub ends_last : {c v y z : ℕ} → a ≤ b → b ≤ c → EndsBefore tables k a from b last rests at c v → v ≤ too_many
      → y ≡ min (last + get_or rests (at + b) 0) too_many → z ≡ min v y → AtNonterminal tables k a from b last rests at z
  ends_last {c} {v} {y} {z} h m S t f g = record {
    exact = λ fit cost places R.
        let d : min c b ≡ b = omega arith in
        leastcut-node (first_step h (rw d at (S.lowest fit cost places R)) (R.later b h (omega arith))
        (ap (λ (u : ℕ). u + get_or rests (at + b) 0) R.whole) (omega arith));
  }
