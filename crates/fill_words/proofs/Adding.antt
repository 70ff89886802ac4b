-- Adding the flags of one start to the starts: what the steps of the code give. Assumes nothing.
use Prim.Native.Nat.{ℕ, ◌+◌, ◌*◌, ◌<◌}
use mathlib.Core.Bool.{Bool, true, cond}
use mathlib.Core.List.{List}
use mathlib.Core.Logic.{◌⊎◌, inl, inr, ⊎_elim}
use mathlib.Core.Path.{◌≡◌, sym, ap, ◌∙◌}
use native.Mathlib.Omega.{arith}
use lib.ListN.{length, get_or, set, length-set}
use Rattle.sizes.specs.Sizes.{max_rules, max_places}
use Rattle.laws.proofs.Bools.{true-false}
use Rattle.laws.proofs.Lists.{below_step}
use Rattle.sets.specs.Set.{has, insert}
use Rattle.sets.proofs.Laws.{has-empty}
use Rattle.fill_words.specs.Spans.{starts_size, starts_of}
use Rattle.fill_words.specs.Ends.{StartAdded}
use Rattle.fill_words.proofs.Rows.{row-if-keeps, row-if-has, row-if-sound}

-- ---- the places of a rule

module _ (p : List ℕ) (r i flags : ℕ) (starts₀ live₀ : List ℕ) where
  -- j was in word x before, or it is i and was added at a place below m that the flags have
  abbrev In : (m x j : ℕ) → Type 0
  In m x j = (has j (get_or starts₀ x 0) ≡ true)
      ⊎ ((j ≡ i) × ((q : ℕ) × (0 < q) × (q < m) × (x ≡ 8 * r + q) × (has q flags ≡ true)))

  in-more : (m m' x j : ℕ) → ((q : ℕ) → 0 < q → q < m → q < m') → In m x j → In m' x j
  in-more m m' x j more (inl y) = inl y
  in-more m m' x j more (inr (d, (q, z, l, c, y))) = inr (d, (q, z, more q z l, c, y))

  -- the places below m are done
  pub record PlacesTo (m : ℕ) (starts live : List ℕ) : Type 0 where
    pub long : length starts ≡ starts_size
    pub live_long : length live ≡ max_rules
    pub keeps : (x j : ℕ) → has j (get_or starts₀ x 0) ≡ true → has j (get_or starts x 0) ≡ true
    pub all : (q : ℕ) → 0 < q → q < m → has q flags ≡ true → has i (starts_of starts r q) ≡ true
    pub sound : (x j : ℕ) → has j (get_or starts x 0) ≡ true → In m x j
    pub live_keeps : (x j : ℕ) → has j (get_or live₀ x 0) ≡ true → has j (get_or live x 0) ≡ true
    pub lives : (q : ℕ) → 0 < q → q < m → has q flags ≡ true → has i (get_or live r 0) ≡ true

  module _ (m : ℕ) (starts live : List ℕ) (t : Bool) (v u : ℕ) (below : r < max_rules) (small : m < max_places) (first : 0 < m)
      (e : t ≡ has m flags)
      (f : v ≡ cond t (insert i (get_or starts (8 * r + m) 0)) (get_or starts (8 * r + m) 0))
      (g : u ≡ cond t (insert i (get_or live r 0)) (get_or live r 0)) (to : PlacesTo m starts live) where
    room : 8 * r + m < length starts
    room = omega (arith, to.long)

    live_room : r < length live
    live_room = omega (arith, to.live_long)

    pub places-step : PlacesTo (m + 1) (set starts (8 * r + m) v) (set live r u)
    places-step = record {
      long = length-set starts (8 * r + m) v ∙ to.long;
      live_long = length-set live r u ∙ to.live_long;
      keeps = λ x j h. row-if-keeps starts (8 * r + m) i room t v f x j (to.keeps x j h);
      all = λ q z l h.
          below_step (λ (q : ℕ). 0 < q → has q flags ≡ true → has i (starts_of (set starts (8 * r + m) v) r q) ≡ true) m
          (λ q l z h. row-if-keeps starts (8 * r + m) i room t v f (8 * r + q) i (to.all q z l h))
          (λ z h. row-if-has starts (8 * r + m) i room t v f (e ∙ h)) q l z h;
      sound = λ x j h. ⊎_elim (λ y. in-more m (m + 1) x j (λ q z l. omega arith) (to.sound x j y))
          (λ y. inr (y.0, (m, first, omega arith, y.1, sym e ∙ y.2))) (row-if-sound starts (8 * r + m) i room t v f x j h);
      live_keeps = λ x j h. row-if-keeps live r i live_room t u g x j (to.live_keeps x j h);
      lives = λ q z l h. below_step (λ (q : ℕ). 0 < q → has q flags ≡ true → has i (get_or (set live r u) r 0) ≡ true) m
          (λ q l z h. row-if-keeps live r i live_room t u g r i (to.lives q z l h))
          (λ z h. row-if-has live r i live_room t u g (e ∙ h)) q l z h;
    }

  pub places-none : flags ≡ 0 → length starts₀ ≡ starts_size → length live₀ ≡ max_rules → StartAdded p r i flags starts₀ live₀ starts₀ live₀
  places-none z long live_long = record {
    long = long;
    live_long = live_long;
    keeps = λ x j h. h;
    all = λ q _ _ h. absurd (none q h);
    sound = λ x j h. inl h;
    live_keeps = λ x j h. h;
    lives = λ q _ _ h. absurd (none q h);
  }
    where
      none : (q : ℕ) → has q flags ≡ true → ⊥
      none q h = true-false h (ap (has q) z ∙ has-empty q)
