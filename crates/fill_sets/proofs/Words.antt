-- The members of a word are listed one after the other: what each step gives. Assumes nothing.
use Prim.Native.Nat.{ℕ, ◌+◌, ◌^◌, ◌≤◌, ◌<◌}
use mathlib.Core.Bool.{true, false}
use mathlib.Core.List.{List}
use mathlib.Core.Logic.{◌⊎◌, ◌≢◌, inl, inr, ⊎_elim, dite}
use mathlib.Core.Path.{◌≡◌, refl, sym, ap, ◌∙◌, subst}
use native.Mathlib.Decide.{ℕ_discrete, dec_lt}
use native.Mathlib.Omega.{arith}
use lib.ListN.{get_or, set, length-set}
use lib.Seq.{get_or-set_same, get_or-set_other}
use Rattle.sizes.specs.Sizes.{max_rules}
use Rattle.laws.proofs.Bools.{true-false, bool_false}
use Rattle.laws.proofs.Lists.{below_step}
use Rattle.sets.specs.Set.{has}
use Rattle.sets.specs.Pairs.{FirstMember, Without}
use Rattle.sets.proofs.Laws.{has-empty, has-insert, has-insert-other, insert-new}
use Rattle.sets.proofs.Pairs.{member}
use Rattle.fill_rules.specs.declared.Rules.{Rules}
use Rattle.fill_rules.specs.declared.Listed.{Listed}
use Rattle.fill_rules.specs.Rules.{has_rule, RuleAdded}
use Rattle.fill_rules.specs.Listing.{ListOf}
use Rattle.fill_rules.proofs.Counting.{size-lacks, size-more}
use Rattle.fill_sets.specs.Words.{Apart, InWord, WordListed}

-- the first members of a list, as many as the count says
abbrev pub listing : Rules → ℕ → Listed
listing s n = record { set = s; count = n }

-- ---- the least member of a word

-- a word that is not empty has a least member below 64
pub first-in : (w k : ℕ) → w < 2 ^ 64 → w ≢ 0 → FirstMember 64 w k → (k < 64) × (has k w ≡ true)
first-in w k small d first = dite (dec_lt k 64) (λ l. (l, first.member l))
    (λ l. let (j, h, m) = member 64 w small d in absurd (true-false m (first.before j (omega arith))))

-- the rest gets smaller
pub rest-less : (k rest rest' : ℕ) → Without k rest rest' → rest' < rest
rest-less k rest rest' without = omega (arith, insert-new k rest' without.gone, without.whole)

-- what is in the rest was there before
pub rest_part : (j k rest rest' : ℕ) → Without k rest rest' → has j rest' ≡ true → has j rest ≡ true
rest_part j k rest rest' without h = ap (has j) (sym without.whole) ∙ has-insert j k rest' h

-- what was there before, except k, is in the rest
pub rest-keeps : (j k rest rest' : ℕ) → Without k rest rest' → j ≢ k → has j rest ≡ true → has j rest' ≡ true
rest-keeps j k rest rest' without d h = sym (has-insert-other j k rest' d) ∙ ap (has j) without.whole ∙ h

-- ---- one more rule is listed

module _ (s : Rules) (n : ℕ) (list : List ℕ) (r : ℕ) (listed : ListOf (listing s n) list) (small : r < max_rules)
    (fresh : has_rule r s ≡ false) where
  -- the list has room for it
  pub room_for : n < max_rules
  room_for = omega (arith, size-lacks s r small fresh, listed.room)

  same-front : (t : ℕ) → t < n → get_or (set list n r) t 0 ≡ get_or list t 0
  same-front t l = get_or-set_other list n t r 0 (λ e. omega (arith, e))

  last-is : get_or (set list n r) n 0 ≡ r
  last-is = get_or-set_same list n r 0 (omega (arith, room_for, listed.numbers.long))

  -- what holds of the numbers listed and of r holds of the numbers listed now
  each : (P : ℕ → Type 0) → ((t : ℕ) → t < n → P (get_or list t 0)) → P r → (t : ℕ) → t < n + 1 → P (get_or (set list n r) t 0)
  each P old new = below_step (λ (t : ℕ). P (get_or (set list n r) t 0)) n
      (λ t l. subst P (sym (same-front t l)) (old t l)) (subst P (sym last-is) new)

  pub listed_more : (s' : Rules) → RuleAdded r s s' → ListOf (listing s' (n + 1)) (set list n r)
  listed_more s' more = record {
    numbers = record {
      long = length-set list n r ∙ listed.numbers.long;
      few = omega (arith, room_for);
      below = each (λ (x : ℕ). x < max_rules) listed.numbers.below small;
    };
    room = omega (arith, listed.room, size-more s s' r small more.keeps fresh more.here);
    member = λ x i. let (t, l, e) = i in subst (λ (y : ℕ). has_rule y s' ≡ true) e
        (each (λ (y : ℕ). has_rule y s' ≡ true) (λ u k. more.keeps (get_or list u 0) (listed.member (get_or list u 0) (u, k, refl)))
        more.here t l);
    all = λ x h. ⊎_elim (λ e. (n, omega arith, last-is ∙ sym e))
        (λ o. let (t, l, e) = listed.all x o in (t, omega (arith, l), same-front t l ∙ e)) (more.only x h);
  }

-- ---- the members of a word

module _ (base word : ℕ) (l₀ : Listed) (list₀ : List ℕ) where
  -- the members of the word are listed, except those of the rest
  pub record ListedTo (rest : ℕ) (s : Rules) (n : ℕ) (list : List ℕ) : Type 0 where
    pub small : rest < 2 ^ 64
    pub listed : ListOf (listing s n) list
    pub part : (b : ℕ) → has b rest ≡ true → has b word ≡ true
    pub apart : Apart base rest s
    pub grows : l₀.count ≤ n
    pub front : (t : ℕ) → t < l₀.count → get_or list t 0 ≡ get_or list₀ t 0
    pub keeps : (r : ℕ) → has_rule r l₀.set ≡ true → has_rule r s ≡ true
    pub added : (b : ℕ) → has b word ≡ true → (has b rest ≡ true) ⊎ (has_rule (base + b) s ≡ true)
    pub only : (r : ℕ) → has_rule r s ≡ true → InWord base word r ⊎ (has_rule r l₀.set ≡ true)

  pub to_start : word < 2 ^ 64 → Apart base word l₀.set → ListOf l₀ list₀ → ListedTo word l₀.set l₀.count list₀
  to_start small apart listed = record {
    small = small;
    listed = listed;
    part = λ b h. h;
    apart = apart;
    grows = omega arith;
    front = λ t h. refl;
    keeps = λ r h. h;
    added = λ b h. inl h;
    only = λ r h. inr h;
  }

  pub to-done : (rest : ℕ) (s : Rules) (n : ℕ) (list : List ℕ) → rest ≡ 0 → ListedTo rest s n list
      → WordListed base word l₀ (listing s n) list₀ list
  to-done rest s n list z to = record {
    listed = to.listed;
    grows = to.grows;
    front = to.front;
    keeps = to.keeps;
    added = λ b h. ⊎_elim (λ x. absurd (true-false x (ap (has b) z ∙ has-empty b))) (λ x. x) (to.added b h);
    only = to.only;
  }

  module _ (rest : ℕ) (s : Rules) (n : ℕ) (list : List ℕ) (b : ℕ) (low : base ≤ 64) (d : rest ≢ 0) (first : FirstMember 64 rest b)
      (to : ListedTo rest s n list) where
    in_rest : (b < 64) × (has b rest ≡ true)
    in_rest = first-in rest b to.small d first

    pub first_below : b < 64
    first_below = in_rest.0

    pub first_member : has b rest ≡ true
    first_member = in_rest.1

    pub to-rule : base + b < max_rules
    to-rule = omega (arith, in_rest.0)

    fresh : has_rule (base + b) s ≡ false
    fresh = to.apart b in_rest.0 in_rest.1

    pub to_room : n < max_rules
    to_room = room_for s n list (base + b) to.listed to-rule fresh

    pub to_step : (rest' : ℕ) (s' : Rules) → RuleAdded (base + b) s s' → Without b rest rest'
        → ListedTo rest' s' (n + 1) (set list n (base + b))
    to_step rest' s' more without = record {
      small = omega (arith, rest-less b rest rest' without, to.small);
      listed = listed_more s n list (base + b) to.listed to-rule fresh s' more;
      part = λ j h. to.part j (rest_part j b rest rest' without h);
      apart = λ j l h. bool_false (has_rule (base + j) s') (λ m. ⊎_elim
          (λ e. let z : j ≡ b = omega (arith, e) in true-false h (ap (λ (x : ℕ). has x rest') z ∙ without.gone))
          (λ o. true-false o (to.apart j l (rest_part j b rest rest' without h))) (more.only (base + j) m));
      grows = omega (arith, to.grows);
      front = λ t l. get_or-set_other list n t (base + b) 0 (λ e. omega (arith, e, to.grows)) ∙ to.front t l;
      keeps = λ r h. more.keeps r (to.keeps r h);
      added = λ j h. dite (ℕ_discrete j b)
          (λ e. inr (subst (λ (x : ℕ). has_rule (base + x) s' ≡ true) (sym e) more.here))
          (λ e. ⊎_elim (λ x. inl (rest-keeps j b rest rest' without e x)) (λ x. inr (more.keeps (base + j) x)) (to.added j h));
      only = λ r h. ⊎_elim (λ e. inl (b, in_rest.0, to.part b in_rest.1, e)) (λ o. to.only r o) (more.only r h);
    }
