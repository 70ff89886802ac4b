-- All places of a rule, and the test by which a rule is passed over: what the steps of the code give. Assumes nothing.
use Prim.Native.Nat.{ℕ, suc, ◌+◌, ◌≤◌, ◌<◌}
use mathlib.Core.Bool.{Bool, true, false, cond}
use mathlib.Core.List.{List}
use mathlib.Core.Logic.{◌↔◌, ◌≢◌, dite}
use mathlib.Core.Path.{◌≡◌, sym, ap, ◌∙◌, subst}
use native.Mathlib.Decide.{dec_lt}
use native.Mathlib.Numerals.{add-one}
use native.Mathlib.Omega.{arith}
use lib.ListN.{length, get_or, set, length-set}
use Rattle.sizes.specs.Sizes.{max_rules}
use Rattle.laws.proofs.Bools.{true-false}
use Rattle.laws.proofs.Lists.{set_below, below_step}
use Rattle.sets.specs.Set.{has, insert}
use Rattle.sets.proofs.Laws.{has-empty, has-insert, has-insert-same}
use Rattle.chart.specs.Cell.{Fit, cuts}
use Rattle.packed.specs.Packed.{place_count}
use Rattle.packed_fit.specs.Fit.{entry_in}
use Rattle.fill_reach.specs.Reach.{CanBegin}
use Rattle.fill_reach.proofs.Passing.{cannot-inside}
use Rattle.fill_rule.specs.Flags.{Sets, tail, inner_leaf, inner_node, InnerAt}
use Rattle.fill_rule.proofs.Bits.{has-if-same, has-if-other}
use Rattle.fill_rule.proofs.First.{none-cuts}
use Rattle.fill_inner.specs.Begins.{InnerKnown, Near, BeginsAt, Begins, BeginsNear, AllBegin}

-- ---- all places of a rule

module _ (p : List ℕ) (r i n fits : ℕ) (ends starts : List ℕ) (last : ℕ) where
  -- v has those of the places below q at which an inner cut begins, and no others
  pub record BeginsTo (q v : ℕ) : Type 0 where
    pub done : (fit : Fit) (sets : Sets) → InnerKnown fit sets p r i n fits ends starts last → (j : ℕ) → j < q
        → (has j v ≡ true) ↔ InnerAt fit sets p r i n j
    pub rest : (j : ℕ) → q ≤ j → has j v ≡ false

  pub begins-start : BeginsTo 0 0
  begins-start = record { done = λ fit sets known j l. absurd (omega arith); rest = λ j _. has-empty j }

  pub begins-step : (q v x : ℕ) (f : Bool) → BeginsAt p r q i n fits ends starts last f → x ≡ cond f (insert q v) v → BeginsTo q v
      → BeginsTo (q + 1) x
  begins-step q v x f place e to = record {
    done = λ fit sets known. below_step (λ (j : ℕ). (has j x ≡ true) ↔ InnerAt fit sets p r i n j) q
        (λ j l. subst (λ (b : Bool). (b ≡ true) ↔ InnerAt fit sets p r i n j) (sym (other j (omega arith))) (to.done fit sets known j l))
        (subst (λ (b : Bool). (b ≡ true) ↔ InnerAt fit sets p r i n q) (sym same) (place.exact fit sets known));
    rest = λ j l. other j (omega arith) ∙ to.rest j (omega arith);
  }
    where
      other : (j : ℕ) → j ≢ q → has j x ≡ has j v
      other j d = ap (has j) e ∙ has-if-other q v f j d

      same : has q x ≡ f
      same = ap (has q) e ∙ has-if-same q v f (to.rest q (omega arith))

  pub begins-done : (q v : ℕ) → place_count p r ≤ q → BeginsTo q v → Begins p r i n fits ends starts last v
  begins-done q v h to = record { exact = λ fit sets known j l. to.done fit sets known j (omega arith) }

  -- ---- rules that can have no inner cut

  module _ (reach live : ℕ) where
    pub near-looked : (v : ℕ) → Begins p r i n fits ends starts last v → BeginsNear p r i n fits ends starts reach live last v
    near-looked v begins = record { exact = λ fit sets known near. begins.exact fit sets known }

    module _ (f : Bool) (order : i < n) (can : CanBegin i n reach live f) (not : f ≡ false) where
      inside : i + 1 < n
      inside = cannot-inside can not

      -- a later start from which the rest is cut, and which is the next one or an end, would make the sets meet
      never : (fit : Fit) (sets : Sets) → InnerKnown fit sets p r i n fits ends starts last → Near sets p r i n starts reach live
          → (q b : ℕ) → q < place_count p r → i < b → b < n → has b (insert (i + 1) reach) ≡ true
          → cuts fit sets (tail p r (suc q)) b n ≡ true → f ≡ true
      never fit sets known near q b h l m x y = dite (dec_lt (suc q) (place_count p r))
          (λ u. (can.before inside).all b x
          (near.lives (suc q) b (omega arith) u (known.behind.all (suc q) b (omega arith) u (omega arith) m y)))
          (λ u. absurd (true-false y (none-cuts fit sets p r (suc q) b n (omega arith) m)))

      begins-never : (fit : Fit) (sets : Sets) → InnerKnown fit sets p r i n fits ends starts last → Near sets p r i n starts reach live
          → (q : ℕ) → q < place_count p r → InnerAt fit sets p r i n q → f ≡ true
      begins-never fit sets known near q h (inner_leaf t d l x y) = never fit sets known near q (i + 1) h (omega arith) inside
          (has-insert-same (i + 1) reach) (ap (λ (z : ℕ). cuts fit sets (tail p r (suc q)) z n) (add-one i) ∙ y)
      begins-never fit sets known near q h (inner_node k b d l m x y) = never fit sets known near q b h l m
          (has-insert b (i + 1) reach (near.reaches k b l m x)) y

      pub near-passed : BeginsNear p r i n fits ends starts reach live last 0
      near-passed = record {
        exact = λ fit sets known near q h. (
          λ e. absurd (true-false e (has-empty q)),
          λ c. absurd (true-false (begins-never fit sets known near q h c) not),
        );
      }

-- ---- every rule

module _ (p : List ℕ) (rules i n : ℕ) (t ends starts : List ℕ) (reach : ℕ) (live lasts : List ℕ) where
  -- the words of the rules below m are right
  pub record AllTo (m : ℕ) (insides : List ℕ) : Type 0 where
    pub long : length insides ≡ max_rules
    pub done : (r : ℕ) → r < m → BeginsNear p r i n (entry_in t i r) ends starts reach (get_or live r 0) (get_or lasts r 0) (get_or insides r 0)

  pub all-step : (m v word : ℕ) (insides : List ℕ) → m < max_rules → word ≡ entry_in t i m
      → BeginsNear p m i n word ends starts reach (get_or live m 0) (get_or lasts m 0) v → AllTo m insides → AllTo (m + 1) (set insides m v)
  all-step m v word insides b f near to = record {
    long = length-set insides m v ∙ to.long;
    done = set_below (λ (r x : ℕ). BeginsNear p r i n (entry_in t i r) ends starts reach (get_or live r 0) (get_or lasts r 0) x) 0 insides m v
        (omega (arith, to.long))
        (subst (λ (y : ℕ). BeginsNear p m i n y ends starts reach (get_or live m 0) (get_or lasts m 0) v) f near)
        to.done;
  }

  pub all_done : (m : ℕ) (insides : List ℕ) → rules ≤ m → AllTo m insides → AllBegin p rules i n t ends starts reach live lasts insides
  all_done m insides h to = record { long = to.long; each = λ r l. to.done r (omega arith) }
