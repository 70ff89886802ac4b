-- All rules at one cell, again and again until nothing is added: what the steps of the code give. Assumes nothing.
use Prim.Native.Nat.{ℕ, ◌+◌, ◌≤◌, ◌<◌}
use mathlib.Core.Bool.{Bool, true, cond}
use mathlib.Core.List.{List}
use mathlib.Core.Logic.{◌≢◌, dite}
use mathlib.Core.Path.{◌≡◌, sym, ap, ◌∙◌, subst}
use native.Mathlib.Decide.{ℕ_discrete}
use native.Mathlib.Nat.{le_antisymm}
use native.Mathlib.Omega.{arith}
use lib.Dec.{ltb}
use lib.ListN.{length, get_or}
use borrow.Author.Tests.{lt-ltb}
use Rattle.sizes.specs.Sizes.{max_rules}
use Rattle.laws.proofs.Bools.{and_both}
use Rattle.laws.proofs.Lists.{below_step}
use Rattle.sets.specs.Set.{has, insert}
use Rattle.sets.proofs.Laws.{has-insert, has-insert-same}
use Rattle.cfg.specs.Grammar.{Symbol}
use Rattle.chart.specs.Cell.{cuts}
use Rattle.chart.proofs.Rounds.{sub-empty}
use Rattle.packed.specs.Packed.{left_in, places_in}
use Rattle.packed.proofs.Laws.{places-start}
use Rattle.fill_rule.specs.Flags.{owned}
use Rattle.fill_rule.specs.Passes.{Within, added_in}
use Rattle.fill_rule.proofs.Owned.{owned-mono}
use Rattle.fill_rule.proofs.Passing.{added-cases, added-le, added-within}
use Rattle.fill_closure.specs.Looks.{Agrees, RuleLooked, Again, SoundSet, PassState, PassMade, LeastClosed}

-- adding keeps the members, and adds the left side if the flags have 0
added-keeps : (p : List ℕ) (r v own : ℕ) → Within own (added_in p r v own)
added-keeps p r v own k h =
    added-cases p r v own (λ (x : ℕ). has k x ≡ true) h (λ _ _. has-insert k (left_in p r) own h)

added-has : (p : List ℕ) (r v own : ℕ) → left_in p r < 32 → has 0 v ≡ true → has (left_in p r) (added_in p r v own) ≡ true
unfolding added_in
added-has p r v own l h =
    ap (λ (b : Bool). has (left_in p r) (cond b (insert (left_in p r) own) own))
    (and_both (has 0 v) (ltb (left_in p r) 32) h (lt-ltb (left_in p r) 32 l))
    ∙ has-insert-same (left_in p r) own

module _ (p : List ℕ) (rules start : ℕ) (insides lasts kinds : List ℕ) where
  pub state-start : (flags made : List ℕ) → length flags ≡ max_rules → length made ≡ max_rules
      → PassState p rules start insides lasts kinds 0 0 flags made
  state-start flags made long made_long = record {
    long = long;
    made_long = made_long;
    exact = λ r l. absurd (omega arith);
    closed = λ r l. absurd (omega arith);
    sound = λ fit sets i n order givens T c. sub-empty T;
  }

  -- ---- one more rule, or a rule once more

  module _ (few : rules ≤ max_rules) (m own r v : ℕ) (flags made flags' made' : List ℕ) (below : r < rules)
      (state : PassState p rules start insides lasts kinds m own flags made)
      (put : RuleLooked p r start (get_or insides r 0) (get_or lasts r 0) (get_or kinds r 0) own flags made flags' made' v) where
    grown : Within own v
    grown k h = subst (λ (x : ℕ). has k x ≡ true) (sym put.result) (added-keeps p r (get_or flags' r 0) own k h)

    put-le : own ≤ v
    put-le = subst (λ (x : ℕ). own ≤ x) (sym put.result) (added-le p r (get_or flags' r 0) own)

    put-sound : SoundSet p rules start insides lasts kinds v
    put-sound fit sets i n order givens T closed =
        subst (λ (x : ℕ). Within x T) (sym put.result) (added-within p r (get_or flags' r 0) own T in_t
        (λ l h. closed r (omega arith) l (owned-mono fit sets i n own T (omega arith) in_t (places_in p r)
        (ap (λ (x : List Symbol). cuts fit (owned sets i n own) x i n) (sym (places-start p r))
        ∙ sym (put.exact fit sets i n order (givens r below) own put.agrees 0 (omega arith)) ∙ h))))
      where
        in_t : Within own T
        in_t = state.sound fit sets i n order givens T closed

    pub state-put : (m' : ℕ) → ((s : ℕ) → s < m' → s ≢ r → s < m) → PassState p rules start insides lasts kinds m' v flags' made'
    state-put m' old = record {
      long = put.long;
      made_long = put.made_long;
      exact = λ s l. dite (ℕ_discrete s r) (λ d. rw d put.exact)
          (λ d. rw (put.made_other s d, put.other s d) (state.exact s (old s l d)));
      closed = λ s l. dite (ℕ_discrete s r)
          (λ d. rw d (λ b h. rw put.result (added-has p r (get_or flags' r 0) own b h)))
          (λ d b h. grown (left_in p s) (state.closed s (old s l d) b (ap (has 0) (sym (put.other s d)) ∙ h)));
      sound = put-sound;
    }

    pub fresh-put : v ≡ own → Agrees (get_or kinds r 0) (get_or made' r 0) v
    fresh-put e = subst (λ (x : ℕ). Agrees (get_or kinds r 0) (get_or made' r 0) x) (sym e) put.agrees

  pub first_step : (r own v : ℕ) (flags made flags' made' : List ℕ) → rules ≤ max_rules → r < rules
      → PassState p rules start insides lasts kinds r own flags made
      → RuleLooked p r start (get_or insides r 0) (get_or lasts r 0) (get_or kinds r 0) own flags made flags' made' v
      → PassState p rules start insides lasts kinds (r + 1) v flags' made'
  first_step r own v flags made flags' made' few below state put =
      state-put few r own r v flags made flags' made' below state put (r + 1) (λ s l d. let e : s ≢ r = d in omega arith)

  pub first_done : (r own : ℕ) (flags made : List ℕ) → r ≤ rules → rules ≤ r
      → PassState p rules start insides lasts kinds r own flags made → PassState p rules start insides lasts kinds rules own flags made
  first_done r own flags made h l state =
      subst (λ (x : ℕ). PassState p rules start insides lasts kinds x own flags made) (le_antisymm h l) state

  -- ---- again

  pub again-step : (r own v v' : ℕ) (flags made flags' made' : List ℕ) → rules ≤ max_rules → r < rules
      → PassMade p rules start insides lasts kinds r own v flags made
      → Again p r start (get_or insides r 0) (get_or lasts r 0) (get_or kinds r 0) v flags made flags' made' v'
      → PassMade p rules start insides lasts kinds (r + 1) own v' flags' made'
  again-step r own v v' flags made flags' made' few below passed again = record {
    state = state-put few rules v r v' flags made flags' made' below passed.state put rules (λ s l d. l);
    grows = omega (arith, le, passed.grows);
    fresh = fresh;
  }
    where
      put : RuleLooked p r start (get_or insides r 0) (get_or lasts r 0) (get_or kinds r 0) v flags made flags' made' v'
      put = again.put (passed.state.exact r below) (passed.state.closed r below)

      le : v ≤ v'
      le = put-le few rules v r v' flags made flags' made' below passed.state put

      fresh : v' ≡ own → (s : ℕ) → s < r + 1 → Agrees (get_or kinds s 0) (get_or made' s 0) v'
      fresh e =
          let f : v' ≡ v = omega (arith, le, passed.grows) in
          let h : v ≡ own = omega (arith, le, passed.grows) in
          below_step (λ (s : ℕ). Agrees (get_or kinds s 0) (get_or made' s 0) v') r
          (λ s l. rw (put.made_other s (omega arith), f) (passed.fresh h s l))
          (fresh-put few rules v r v' flags made flags' made' below passed.state put f)

  pub again-done : (r own v : ℕ) (flags made : List ℕ) → r ≤ rules → rules ≤ r
      → PassMade p rules start insides lasts kinds r own v flags made
      → PassMade p rules start insides lasts kinds rules own v flags made
  again-done r own v flags made h l passed =
      subst (λ (x : ℕ). PassMade p rules start insides lasts kinds x own v flags made) (le_antisymm h l) passed

  -- ---- until nothing is added

  pub closed-now : (own v : ℕ) (flags made : List ℕ) → v ≡ own → PassMade p rules start insides lasts kinds rules own v flags made
      → LeastClosed p rules start insides lasts kinds v flags made
  closed-now own v flags made e passed = record {
    long = passed.state.long;
    made_long = passed.state.made_long;
    sound = passed.state.sound;
    settled = λ fit sets i n order givens r l. record {
      exact = passed.state.exact r l fit sets i n order (givens r l) v (passed.fresh e r l);
      closed = passed.state.closed r l;
    };
  }
