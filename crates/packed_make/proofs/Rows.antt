-- Writing the rules of a declared grammar that are in force, one after the other, into bytes that are all 255. Assumes nothing.
use Prim.Native.Nat.{ℕ, ◌+◌, ◌*◌, ◌≤◌, ◌<◌}
use mathlib.Core.Bool.{true}
use mathlib.Core.List.{List}
use mathlib.Core.Option.{none}
use mathlib.Core.Path.{◌≡◌, sym, ◌∙◌}
use native.Mathlib.Decide.{dec_lt}
use native.Mathlib.Omega.{arith}
use lib.ListN.{length, take, get_or, replicate, length-replicate, get_or-replicate}
use Rattle.std.proofs.lemmas.List.{length-take}
use Rattle.sizes.specs.Sizes.{max_rules}
use Rattle.laws.proofs.Lists.{below_step}
use Rattle.cfg.specs.Grammar.{rule}
use Rattle.grammar.specs.declared.Grammar.{Grammar}
use Rattle.grammar.specs.Valid.{valid_grammar}
use Rattle.grammar.specs.View.{rule_in_year, dated, grammar_of}
use Rattle.grammar.specs.Zero.{no_rule}
use Rattle.grammar.proofs.Bounds.{valid-count}
use Rattle.grammar.proofs.RuleAt.{rule-at, rule-past}
use Rattle.packed_make.specs.Place.{RulePacked}
use Rattle.packed.specs.Packed.{left_in, rule_in, cfg_in, packed_size, rule_bytes}
use Rattle.packed.proofs.Laws.{rule-unused, rule-in, rule-in-past}

-- p has those of the first r rules of the grammar that are in force in the year y, and no others
pub record Rows (g : Grammar) (y r : ℕ) (p : List ℕ) : Type 0 where
  pub long : length p ≡ packed_size
  pub done : (k : ℕ) → k < r → rule_in p k ≡ rule_in_year y (get_or g.rules k no_rule)
  pub unused : (k : ℕ) → r ≤ k → k < max_rules → rule_in p k ≡ none

all-unused : (n k : ℕ) → n ≡ packed_size → k < max_rules → rule_in (replicate n 255) k ≡ none
unfolding left_in
all-unused n k e h =
    let l : left_in (replicate n 255) k ≡ 255 = get_or-replicate n (rule_bytes * k) 255 0 (omega arith) in
    rule-unused (replicate n 255) k (omega arith)

-- any number of bytes, so that nothing computes
rows_of : (g : Grammar) (y n : ℕ) → n ≡ packed_size → Rows g y 0 (replicate n 255)
rows_of g y n e = record {
  long = length-replicate {A = ℕ} n 255 ∙ e;
  done = λ k h. absurd (omega arith);
  unused = λ k _ h. all-unused n k e h;
}

pub rows_start : (g : Grammar) (y : ℕ) → Rows g y 0 (replicate packed_size 255)
rows_start g y = rows_of g y packed_size (λ i. packed_size)

module _ (g : Grammar) (y : ℕ) where
  pub rows_step : (r : ℕ) (p p' : List ℕ) → Rows g y r p → RulePacked (rule_in_year y (get_or g.rules r no_rule)) r p p' → Rows g y (r + 1) p'
  rows_step r p p' rows put = record {
    long = put.long;
    done = below_step (λ (k : ℕ). rule_in p' k ≡ rule_in_year y (get_or g.rules k no_rule)) r
        (λ k l. put.other k (omega arith) ∙ rows.done k l) put.here;
    unused = λ k h l. put.other k (omega arith) ∙ rows.unused k (omega arith) l;
  }

  pub rows-done : (s r : ℕ) (p : List ℕ) → length g.rules ≡ max_rules → valid_grammar g ≡ true → r ≤ length (take g.count g.rules)
      → length (take g.count g.rules) ≤ r → Rows g y r p → (k : ℕ) → rule (cfg_in s p) k ≡ rule (grammar_of (dated g y)) k
  rows-done s r p full valid h l rows k = go (dec_lt k g.count) (dec_lt k max_rules)
    where
      all : r ≡ g.count
      all = omega (arith, length-take g.count g.rules, valid-count g valid)

      go : Dec (k < g.count) → Dec (k < max_rules) → rule (cfg_in s p) k ≡ rule (grammar_of (dated g y)) k
      go (yes a) b =
          rule-in s p k (omega (arith, valid-count g valid)) ∙ rows.done k (omega (arith, all)) ∙ sym (rule-at (rule_in_year y) g k full valid a)
      go (no a) (yes b) = rule-in s p k b ∙ rows.unused k (omega (arith, all)) b ∙ sym (rule-past (rule_in_year y) g k (omega arith))
      go (no a) (no b) = rule-in-past s p k (omega arith) ∙ sym (rule-past (rule_in_year y) g k (omega arith))
