-- The flags of a start are added for one rule after the other. After that the starts from it on are known. Assumes nothing.
use Prim.Native.Nat.{ℕ, ◌+◌, ◌*◌, ◌≤◌, ◌<◌}
use mathlib.Core.Bool.{true}
use mathlib.Core.List.{List}
use mathlib.Core.Logic.{◌≢◌, ⊎_elim, dite}
use mathlib.Core.Path.{◌≡◌, sym, ap, ◌∙◌}
use native.Mathlib.Decide.{ℕ_discrete}
use native.Mathlib.Omega.{arith}
use lib.ListN.{length, get_or}
use Rattle.sizes.specs.Sizes.{max_rules}
use Rattle.laws.proofs.Lists.{below_step}
use Rattle.sets.specs.Set.{has}
use Rattle.chart.specs.Cell.{Fit, cuts}
use Rattle.packed.specs.Packed.{place_count}
use Rattle.packed.proofs.Laws.{count-le}
use Rattle.fill_rule.specs.Flags.{Sets, tail, Cutting}
use Rattle.fill_words.specs.Spans.{starts_size, starts_of}
use Rattle.fill_words.specs.Ends.{StartAdded, StartsFrom, FlagsPut, StartsTold}

module _ (p : List ℕ) (m i flags : ℕ) (starts live starts' live' : List ℕ) (put : StartAdded p m i flags starts live starts' live') where
  -- the words of another rule stay
  other-same : (r q a : ℕ) → r ≢ m → q < place_count p r → has a (starts_of starts' r q) ≡ true → has a (starts_of starts r q) ≡ true
  other-same r q a d l h = ⊎_elim (λ x. x)
      (λ y. let (_, (j, _, k, e, _)) = y in absurd (d (omega (arith, count-le p r, count-le p m)))) (put.sound (8 * r + q) a h)

  module _ (fit : Fit) (sets : Sets) (n : ℕ) where
    other-told : (r j : ℕ) → r ≢ m → StartsTold fit sets p r j n starts → StartsTold fit sets p r j n starts'
    other-told r j d told = record {
      sound = λ q a z l h. told.sound q a z l (other-same r q a d l h);
      all = λ q a z l h k c. put.keeps (8 * r + q) a (told.all q a z l h k c);
    }

    own-told : i < n → Cutting fit sets p m i n flags → StartsTold fit sets p m (i + 1) n starts → StartsTold fit sets p m i n starts'
    own-told order cut told = record {
      sound = λ q a z l h. ⊎_elim (λ x. let u = told.sound q a z l x in (omega (arith, u.0), u.1, u.2))
          (λ y.
          let (d, (j, _, k, e, x)) = y in
          let f : q ≡ j = omega arith in
          (omega arith, omega arith, rw d (sym (cut q (omega arith)) ∙ ap (λ (y : ℕ). has y flags) f ∙ x)))
          (put.sound (8 * m + q) a h);
      all = λ q a z l h k c. dite (ℕ_discrete a i)
          (λ d. rw d (put.all q z l (cut q (omega arith) ∙ ap (λ (y : ℕ). cuts fit sets (tail p m q) y n) (sym d) ∙ c)))
          (λ d. let e : a ≢ i = d in put.keeps (8 * m + q) a (told.all q a z l (omega arith) k c));
    }

  -- what is in a word of the rules is live
  lives-on : (rules : ℕ)
      → ((r q a : ℕ) → r < rules → 0 < q → q < place_count p r → has a (starts_of starts r q) ≡ true → has a (get_or live r 0) ≡ true)
      → (r q a : ℕ) → r < rules → 0 < q → q < place_count p r → has a (starts_of starts' r q) ≡ true → has a (get_or live' r 0) ≡ true
  lives-on rules lives r q a b z l h = ⊎_elim (λ x. put.live_keeps r a (lives r q a b z l x))
      (λ y.
      let (d, (j, s, k, e, x)) = y in
      let f : r ≡ m = omega (arith, count-le p r, count-le p m) in
      rw (d, f) (put.lives j s k x))
      (put.sound (8 * r + q) a h)

-- ---- all rules

module _ (p : List ℕ) (rules i : ℕ) (flags starts₀ live₀ : List ℕ) where
  -- what is given of the sets
  abbrev Given : Fit → Sets → ℕ → Type 0
  Given fit sets n =
      (i < n) × ((r : ℕ) → r < rules → Cutting fit sets p r i n (get_or flags r 0)) × StartsFrom fit sets p rules (i + 1) n starts₀ live₀

  -- the flags of the rules below m are added
  pub record FlagsTo (m : ℕ) (starts live : List ℕ) : Type 0 where
    pub long : length starts ≡ starts_size
    pub live_long : length live ≡ max_rules
    pub done : (fit : Fit) (sets : Sets) (n : ℕ) → Given fit sets n → (r : ℕ) → r < m → StartsTold fit sets p r i n starts
    pub rest : (fit : Fit) (sets : Sets) (n : ℕ) → Given fit sets n → (r : ℕ) → m ≤ r → r < rules
        → StartsTold fit sets p r (i + 1) n starts
    pub lives : (fit : Fit) (sets : Sets) (n : ℕ) → Given fit sets n → (r q a : ℕ) → r < rules → 0 < q → q < place_count p r
        → has a (starts_of starts r q) ≡ true → has a (get_or live r 0) ≡ true

  pub flags-step : (m : ℕ) (starts live starts' live' : List ℕ) → m < rules → StartAdded p m i (get_or flags m 0) starts live starts' live'
      → FlagsTo m starts live → FlagsTo (m + 1) starts' live'
  flags-step m starts live starts' live' below put to = record {
    long = put.long;
    live_long = put.live_long;
    done = λ fit sets n given. below_step (λ (r : ℕ). StartsTold fit sets p r i n starts') m
        (λ r l. other r i fit sets n (omega arith) (to.done fit sets n given r l))
        (own-told p m i (get_or flags m 0) starts live starts' live' put fit sets n given.0 (given.1 m below)
        (to.rest fit sets n given m (omega arith) below));
    rest = λ fit sets n given r h l. other r (i + 1) fit sets n (omega arith) (to.rest fit sets n given r (omega arith) l);
    lives = λ fit sets n given. lives-on p m i (get_or flags m 0) starts live starts' live' put rules (to.lives fit sets n given);
  }
    where
      other : (r j : ℕ) (fit : Fit) (sets : Sets) (n : ℕ) → r ≢ m → StartsTold fit sets p r j n starts → StartsTold fit sets p r j n starts'
      other r j fit sets n = other-told p m i (get_or flags m 0) starts live starts' live' put fit sets n r j

  pub flags-done : (m : ℕ) (starts live : List ℕ) → rules ≤ m → FlagsTo m starts live → FlagsPut p rules i flags starts₀ live₀ starts live
  flags-done m starts live h to = record {
    long = to.long;
    live_long = to.live_long;
    step = λ fit sets n order cut from. record {
      told = λ r l. to.done fit sets n (order, cut, from) r (omega arith);
      lives = to.lives fit sets n (order, cut, from);
    };
  }
