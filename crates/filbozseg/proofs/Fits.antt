-- A loaded grammar fits a flat row, so it is read back from its row as it was written. Assumes nothing.
use Prim.Native.Nat.{ℕ, zero, suc, ◌+◌, ◌*◌, ◌-◌, ◌≤◌, ◌<◌}
use native.Mathlib.Omega.{arith}
use mathlib.Core.Bool.{Bool, true, false, cond}
use mathlib.Core.List.{List}
use mathlib.Core.Path.{◌≡◌, refl, ◌∙◌}
use lib.Dec.{ltb}
use lib.IntN.{ℤ, pos, neg_ℤ}
use lib.ListN.{length, get_or, length-set}
use lib.Signed.{mag}
use borrow.Author.Tests.{ltb-true, ltb-false}
use Rattle.sizes.specs.Sizes.{max_rules, max_places}
use Rattle.theory_words.specs.Name.{name_size}
use Rattle.theory_shrinking.proofs.Depth.{depth_small}
use Rattle.c_grammar.specs.Fits.{SymbolBytes, DeclaredRule, Fits16}
use Rattle.grammar.specs.declared.Symbol.{Symbol}
use Rattle.grammar.specs.declared.Symbol.TheVariants.{Nonterminal, Terminal, Range}
use Rattle.grammar.specs.declared.Place.{Place}
use Rattle.grammar.specs.declared.Rule.{Rule}
use Rattle.grammar.specs.declared.Grammar.{Grammar}
use Rattle.grammar.specs.Setters.{set_name, opened_rule, placed_rule, set_depth}
use Rattle.grammar.specs.View.{whole_of}
use Rattle.grammar.specs.Zero.{zero_place, zero_rule, zero_grammar, no_rule}
use Rattle.grammar.proofs.Setters.{set-rule-size}
use Rattle.results.specs.Load.{operand, signed, given_name, open_rule, with_start, with_rule, with_place, with_name, accepted_load, load_of}
use Rattle.results.proofs.Loading.Commands.{HeldIn, Invariant, run-kept}
use Rattle.results.proofs.Loading.Lists.{set-each, replicate-each}

-- ---- the grammar read so far

pub record SmallRule (ρ : Rule) : Type 0 where
  pub declared : DeclaredRule ρ
  pub count : ρ.count ≤ max_places

pub record Small (g : Grammar) : Type 0 where
  pub start : g.start < 256
  pub count : g.count ≤ max_rules
  pub rules : length g.rules ≡ max_rules
  pub each : (r : ℕ) → r < max_rules → SmallRule (get_or g.rules r no_rule)

pub small-fits : (g : Grammar) (d : ℕ) → Small g → d < 256 → Fits16 (set_depth g d)
small-fits g d S h = record {
  declared = record { start = S.start; depth = h; rules = S.rules; each = λ r m. (S.each r m).declared };
  count = omega (arith, S.count);
  counts = λ r m. omega (arith, (S.each r m).count);
}

-- a rule of no places
opened-small : (k : ℕ) (z : ℤ) (first last : ℕ) → k < 256 → mag z < 32768 → SmallRule (opened_rule k z first last)
opened-small k z first last h m = record {
  declared = record {
    left = h;
    magnitude = m;
    places = refl;
    symbols = replicate-each (λ p. SymbolBytes p.symbol) zero_place zero_place 8 (omega arith, omega arith);
    name = refl;
    bytes = replicate-each (λ b. b < 256) 0 0 name_size (omega arith);
  };
  count = omega arith;
}

-- a rule with another name of eight bytes
named_small : (ρ : Rule) (name : List ℕ) → SmallRule ρ → length name ≡ name_size → ((k : ℕ) → k < name_size → get_or name k 0 < 256)
    → SmallRule (set_name ρ name)
named_small ρ name R n h = record {
  declared = record {
    left = R.declared.left;
    magnitude = R.declared.magnitude;
    places = R.declared.places;
    symbols = R.declared.symbols;
    name = n;
    bytes = h;
  };
  count = R.count;
}

pub zero-rule-small : SmallRule zero_rule
zero-rule-small = opened-small 0 (pos 0) 0 0 (omega arith) (omega arith)

zero-small : Small zero_grammar
zero-small = record {
  start = omega arith;
  count = omega arith;
  rules = refl;
  each = replicate-each SmallRule no_rule zero_rule max_rules zero-rule-small;
}

negative-small : (n m : ℕ) → n ≡ suc m → m < 32768 → mag (neg_ℤ (pos n)) < 32768
negative-small n m e h = rw e h

signed-small : (low high : ℕ) → low < 256 → high < 256 → mag (signed low high) < 32768
unfolding signed
signed-small low high h k = go (low + 256 * high) (omega arith) (ltb (low + 256 * high) 32768) refl
  where
    go : (n : ℕ) → n ≤ 65535 → (b : Bool) → ltb n 32768 ≡ b → mag (cond b (pos n) (neg_ℤ (pos (65536 - n)))) < 32768
    go n l true e = ltb-true n 32768 e
    go n l false e = let f = ltb-false n 32768 e in negative-small (65536 - n) (65535 - n) (omega arith) (omega arith)

module _ (g : Grammar) (S : Small g) where
  start_small : (k : ℕ) → k < 256 → Small (with_start g k)
  unfolding with_start
  start_small k h = record { start = h; count = S.count; rules = S.rules; each = S.each }

  rule-small : (k : ℕ) (z : ℤ) (first last : ℕ) → k < 256 → mag z < 32768 → g.count ≤ 127 → Small (with_rule g k z first last)
  unfolding with_rule
  rule-small k z first last h m l = record {
    start = S.start;
    count = omega arith;
    rules = set-rule-size g g.count (opened_rule k z first last) ∙ S.rules;
    each = set-each SmallRule no_rule max_rules g.rules g.count _ S.each (opened-small k z first last h m);
  }

  place-small : (s : Symbol) → SymbolBytes s → (open_rule g).count ≤ 7 → Small (with_place g s)
  unfolding with_place open_rule
  place-small s h l =
      let R = S.each (g.count - 1) (omega (arith, S.count)) in
      record {
        start = S.start;
        count = S.count;
        rules = set-rule-size g (g.count - 1) (placed_rule ρ s) ∙ S.rules;
        each = set-each SmallRule no_rule max_rules g.rules (g.count - 1) _ S.each (placed R);
      }
    where
      ρ : Rule
      ρ = get_or g.rules (g.count - 1) no_rule

      placed : SmallRule ρ → SmallRule (placed_rule ρ s)
      placed R = record {
        declared = record {
          left = R.declared.left;
          magnitude = R.declared.magnitude;
          places = length-set ρ.places ρ.count _ ∙ R.declared.places;
          symbols =
              set-each (λ (p : Place). SymbolBytes p.symbol) zero_place 8 ρ.places ρ.count
              (record { symbol = s }) R.declared.symbols h;
          name = R.declared.name;
          bytes = R.declared.bytes;
        };
        count = omega arith;
      }

  name-small : (name : List ℕ) → length name ≡ name_size → ((k : ℕ) → k < name_size → get_or name k 0 < 256) → Small (with_name g name)
  unfolding with_name open_rule
  name-small name n h = record {
    start = S.start;
    count = S.count;
    rules = set-rule-size g (g.count - 1) (set_name (open_rule g) name) ∙ S.rules;
    each = set-each SmallRule no_rule max_rules g.rules (g.count - 1) _ S.each
        (named_small _ name (S.each (g.count - 1) (omega (arith, S.count))) n h);
  }

-- ---- loading

module _ (bytes : List ℕ) (small : (i : ℕ) → get_or bytes i 0 < 256) where
  operand_small : (at i : ℕ) → operand bytes at i < 256
  unfolding operand
  operand_small at i = small (at + 1 + i)

  held_small : (at : ℕ) (s : Symbol) → HeldIn bytes at s → SymbolBytes s
  held_small at (Nonterminal k) e = (omega (arith, operand_small at 0), omega arith)
  held_small at (Terminal m) e = (omega (arith, operand_small at 0), omega arith)
  held_small at (Range low high) e = (omega (arith, e.0, operand_small at 0), omega (arith, e.1, operand_small at 1))

  given-small : (at k : ℕ) → k < name_size → get_or (given_name (operand bytes at)) k 0 < 256
  given-small at zero h = operand_small at 0
  given-small at (suc zero) h = operand_small at 1
  given-small at (suc (suc zero)) h = operand_small at 2
  given-small at (suc (suc (suc zero))) h = operand_small at 3
  given-small at (suc (suc (suc (suc zero)))) h = operand_small at 4
  given-small at (suc (suc (suc (suc (suc zero))))) h = operand_small at 5
  given-small at (suc (suc (suc (suc (suc (suc zero)))))) h = operand_small at 6
  given-small at (suc (suc (suc (suc (suc (suc (suc zero))))))) h = operand_small at 7
  given-small at (suc (suc (suc (suc (suc (suc (suc (suc k)))))))) h = absurd (omega arith)

  pub small-invariant : Invariant bytes (λ at g. Small g)
  small-invariant = record {
    zero = zero-small;
    start = λ at g S e h. start_small g S (operand bytes at 0) (operand_small at 0);
    rule = λ at g S h m. rule-small g S (operand bytes at 0) _ _ _ (operand_small at 0)
        (signed-small (operand bytes at 1) (operand bytes at 2) (operand_small at 1) (operand_small at 2)) (omega arith);
    years = λ at g S h y m. rule-small g S (operand bytes at 0) _ _ _ (operand_small at 0)
        (signed-small (operand bytes at 1) (operand bytes at 2) (operand_small at 1) (operand_small at 2)) (omega arith);
    place = λ at g S s e u m h. place-small g S s (held_small at s e) (omega arith);
    name = λ at g S m o r. name-small g S (given_name (operand bytes at)) refl (given-small at);
  }

  pub load_fits : Fits16 (load_of bytes).grammar
  unfolding load_of accepted_load
  load_fits =
      run-kept small-invariant Fits16 (small-fits zero_grammar 0 zero-small (omega arith))
      (λ at g S. small-fits g _ S (omega (arith, depth_small (whole_of g)))) (length bytes) 0 zero_grammar zero-small
