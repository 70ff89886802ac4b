-- One rule, looked at or passed over: what the steps of the code give. Assumes nothing.
use Prim.Native.Nat.{ℕ, ◌^◌, ◌<◌}
use mathlib.Core.Bool.{true, false, and-true}
use mathlib.Core.List.{List}
use mathlib.Core.Path.{◌≡◌, refl, sym, ap, ◌∙◌, subst}
use native.Mathlib.Omega.{arith}
use lib.ListN.{length, get_or, set, length-set}
use lib.Seq.{get_or-set_same, get_or-set_other}
use borrow.Author.Tests.{ne_eqb}
use Rattle.sizes.specs.Sizes.{max_rules}
use Rattle.laws.proofs.Bools.{true-false}
use Rattle.sets.specs.Set.{has}
use Rattle.sets.specs.Pairs.{Common}
use Rattle.sets.proofs.Laws.{has-empty, insert-old}
use Rattle.packed.specs.Packed.{left_in}
use Rattle.fill_rule.specs.Flags.{owned}
use Rattle.fill_rule.specs.Passes.{RuleMask, added_in}
use Rattle.fill_rule.proofs.Owned.{owned-here, owned-end, cutting-owned, inner-owned}
use Rattle.fill_rule.proofs.Passing.{added-cases}
use Rattle.fill_closure.specs.Looks.{Agrees, Right, RuleLooked, Again}
use Rattle.fill_closure.proofs.Depend.{exact-on, no-flags}

-- what is common to the set and the kinds agrees with the set
common-agrees : (kinds made own : ℕ) → own < 2 ^ 32 → Common own kinds made → Agrees kinds made own
common-agrees kinds made own small c = (small, λ k h. sym (c k ∙ rw h (and-true (has k own))))

-- adding a left side that is in the set, or without the flag 0, changes nothing
added-nothing : (p : List ℕ) (r v own : ℕ) → (left_in p r < 32 → has 0 v ≡ true → has (left_in p r) own ≡ true) → own ≡ added_in p r v own
added-nothing p r v own f =
    added-cases p r v own (λ (x : ℕ). own ≡ x) refl (λ l h. sym (insert-old (left_in p r) own (f l h)))

module _ (p : List ℕ) (r start inside last kinds own : ℕ) (flags made : List ℕ) (own-small : own < 2 ^ 32) (below : r < max_rules)
    (long : length flags ≡ max_rules) (made_long : length made ≡ max_rules) where
  -- the words of rule r are stored
  module _ (m c v : ℕ) where
    flag-here : get_or (set flags r m) r 0 ≡ m
    flag-here = get_or-set_same flags r m 0 (omega arith)

    made-here : get_or (set made r c) r 0 ≡ c
    made-here = get_or-set_same made r c 0 (omega arith)

    put : v ≡ added_in p r m own → Agrees kinds c own → Right p r start inside last kinds c m
        → RuleLooked p r start inside last kinds own flags made (set flags r m) (set made r c) v
    put e a exact = record {
      long = length-set flags r m ∙ long;
      made_long = length-set made r c ∙ made_long;
      other = λ s d. get_or-set_other flags r s m 0 d;
      made_other = λ s d. get_or-set_other made r s c 0 d;
      result = e ∙ ap (λ (x : ℕ). added_in p r x own) (sym flag-here);
      agrees = subst (λ (x : ℕ). Agrees kinds x own) (sym made-here) a;
      exact = subst (λ (x : ℕ). Right p r start inside last kinds x (get_or (set flags r m) r 0)) (sym made-here)
          (subst (λ (x : ℕ). Right p r start inside last kinds c x) (sym flag-here) exact);
    }

  pub looked : (m c v : ℕ) → RuleMask p r false start own inside last m → Common own kinds c → v ≡ added_in p r m own
      → RuleLooked p r start inside last kinds own flags made (set flags r m) (set made r c) v
  looked m c v mask both e = put m c v e agree exact
    where
      agree : Agrees kinds c own
      agree = common-agrees kinds c own own-small both

      exact : Right p r start inside last kinds c m
      exact fit sets i n order given = exact-on fit sets p r i n start inside last kinds order given own c m agree
          (mask.exact fit (owned sets i n own) i n (omega arith) (sym (ne_eqb i n (omega arith))) (record {
            start = owned-end sets i n own i i (omega arith) ∙ given.empty;
            whole = owned-here sets i n own;
            inside = inner-owned fit sets i n p own r inside given.begins;
            after = λ l. cutting-owned fit sets i n p own r n last l (omega arith) given.after;
            none = λ l. absurd (omega arith);
          }))

  pub passed_over : (c : ℕ) → inside ≡ 0 → Common own kinds c → c ≡ 0
      → RuleLooked p r start inside last kinds own flags made (set flags r 0) (set made r 0) own
  passed_over c none both z = put 0 0 own (added-nothing p r 0 own (λ _ h. absurd (true-false h (has-empty 0)))) agree exact
    where
      agree : Agrees kinds 0 own
      agree = subst (λ (x : ℕ). Agrees kinds x own) z (common-agrees kinds c own own-small both)

      exact : Right p r start inside last kinds 0 0
      exact fit sets i n order given x a = no-flags fit sets p r i n start inside last kinds order given none x a.0
          (λ k h. a.1 k h ∙ has-empty k)

  pub looked-again : (v : ℕ) (flags' made' : List ℕ) → RuleLooked p r start inside last kinds own flags made flags' made' v
      → Again p r start inside last kinds own flags made flags' made' v
  looked-again v flags' made' done = record { put = λ _ _. done }

  pub not-again : (c : ℕ) → Common own kinds c → c ≡ get_or made r 0
      → Again p r start inside last kinds own flags made flags made own
  not-again c both e = record {
    put = λ exact closed. record {
      long = long;
      made_long = made_long;
      other = λ s d. refl;
      made_other = λ s d. refl;
      result = added-nothing p r (get_or flags r 0) own closed;
      agrees = subst (λ (x : ℕ). Agrees kinds x own) e (common-agrees kinds c own own-small both);
      exact = exact;
    };
  }
