-- The search for nullable nonterminals as numbers. A pass keeps the members and the width; it adds nothing, and then no rule adds anything,
-- or the set has more members. Then the steps of the loops, with the premises that the code gives. Assumes nothing.
use Prim.Native.Nat.{ℕ, zero, suc, ◌+◌, ◌^◌, ◌≤◌, ◌<◌}
use native.Mathlib.Nat.{le_refl, le_trans, le_of_suc-le-suc, not-suc-le-zero}
use native.Mathlib.Numerals.{add-one}
use native.Mathlib.Omega.{arith}
use mathlib.Core.Bool.{Bool, true, false, cond, not}
use mathlib.Core.List.{List, [], ◌∷◌}
use mathlib.Core.Logic.{◌⊎◌, inl, inr}
use mathlib.Core.Path.{◌≡◌, refl, sym, ap, ◌∙◌, subst}
use lib.ListN.{length, take, get_or}
use lib.Seq.{take-length}
use borrow.Author.Tests.{not-true, leb-true}
use Rattle.std.proofs.lemmas.List.{take_all}
use Rattle.std.proofs.lemmas.List.Folds.{list_all_at}
use Rattle.laws.proofs.Bools.{by-test, and_parts}
use Rattle.sets.specs.Set.{has, insert, card}
use Rattle.sets.proofs.Laws.{has-insert, has-insert-same, insert-old, insert-le, insert-lt, insert-same→has}
use Rattle.sets.proofs.Card.{card-strict}
use Rattle.grammar.specs.declared.Symbol.{Symbol}
use Rattle.grammar.specs.declared.Symbol.TheVariants.{Nonterminal}
use Rattle.grammar.specs.declared.Place.{Place}
use Rattle.grammar.specs.declared.Rule.{Rule}
use Rattle.grammar.specs.Valid.{all, valid_symbol, valid_place, valid_rule}
use Rattle.grammar.specs.View.{symbol_of}
use Rattle.grammar.specs.Zero.{zero_place, no_rule}
use Rattle.grammar.proofs.All.{all-list, all-at}
use Rattle.grammar.proofs.Bounds.{rule-parts}
use Rattle.load_nullable.specs.Nullable.{symbol_known, place_known, rule_known, add_head, widen, pass}

-- ---- a place

pub place-bound : (p : Place) (k : ℕ) → p.symbol ≡ Nonterminal k → valid_place p ≡ true → k < 32
place-bound p k e v = omega (arith, leb-true k 31 (sym (ap valid_symbol e) ∙ v))

pub place-member : (known : ℕ) (p : Place) (k : ℕ) (b : Bool) → p.symbol ≡ Nonterminal k → b ≡ has k known → b ≡ place_known known p
place-member known p k b e h = h ∙ sym (ap (λ (s : Symbol). symbol_known known (symbol_of s)) e)

-- ---- the places of a rule

-- the used places are read one by one
module _ (r : Rule) where
  abbrev used : List Place
  used = take r.count r.places

  pub used-place-valid : (q : ℕ) → valid_rule r ≡ true → q < length used → valid_place (get_or used q zero_place) ≡ true
  used-place-valid q v h =
      let all_of : all valid_place (take (length used) used) ≡ true = rw take-length (rule-parts r v).2 in
      all-at valid_place zero_place refl used (length used) q h all_of

module _ (known : ℕ) (r : Rule) where
  pub rule-stops : (q : ℕ) (b : Bool) → b ≡ place_known known (get_or (used r) q zero_place) → not b ≡ true → q < length (used r)
      → false ≡ rule_known known r
  unfolding rule_known
  rule-stops q b e t h =
      sym (all-list (place_known known) (used r) ∙ list_all_at (place_known known) (used r) q zero_place h (sym e ∙ not-true b t))

  pub rule-whole : (q : ℕ) → length (used r) ≤ q → all (place_known known) (take q (used r)) ≡ true → true ≡ rule_known known r
  unfolding rule_known
  rule-whole q h e = sym (rw (take_all q (used r) h) at e)

  module _ (found : ℕ) (b : Bool) (e : b ≡ rule_known known r) where
    head_in : b ≡ true → insert r.left found ≡ add_head r known found
    unfolding add_head
    head_in t = rw (sym e ∙ t)

    pub head-with : (s : ℕ) → b ≡ true → s ≡ insert r.left found → s ≡ add_head r known found
    head-with s t h = h ∙ head_in t

    pub head-out : b ≡ false → found ≡ add_head r known found
    unfolding add_head
    head-out t = rw (sym e ∙ t)

  -- what holds of the set, and of the set with the left side if the places are known, holds of the result
  pub widen-cases : (P : ℕ → Type 0) → P known → (rule_known known r ≡ true → P (insert r.left known)) → P (widen r known)
  unfolding add_head
  widen-cases P old new = go (rule_known known r) refl
    where
      go : (b : Bool) → rule_known known r ≡ b → P (cond b (insert r.left known) known)
      go true e = new e
      go false e = old

  pub widen-le : known ≤ widen r known
  widen-le = widen-cases (λ (x : ℕ). known ≤ x) (le_refl known) (λ e. insert-le r.left known)

  pub widen-word : r.left ≤ 31 → known < 2 ^ 32 → widen r known < 2 ^ 32
  widen-word h l = widen-cases (λ (x : ℕ). x < 2 ^ 32) l (λ e. insert-lt r.left known (omega arith) l)

  -- a rule that adds nothing has its left side in the set if its places are
  pub widen-same : widen r known ≡ known → rule_known known r ≡ true → has r.left known ≡ true
  widen-same s e = insert-same→has r.left known (head_in known true (sym e) refl ∙ s)

pub rule-left-bound : (r : Rule) → valid_rule r ≡ true → r.left < 32
rule-left-bound r v = omega (arith, (rule-parts r v).0)

-- ---- a pass over the rules

pub pass_le : (l : List Rule) (known : ℕ) → known ≤ pass l known
unfolding pass
pass_le [] known = le_refl known
pass_le (r ∷ l) known = le_trans (widen-le known r) (pass_le l (widen r known))

pub pass-word : (l : List Rule) (known : ℕ) → all valid_rule l ≡ true → known < 2 ^ 32 → pass l known < 2 ^ 32
unfolding pass all
pass-word [] known v h = h
pass-word (r ∷ l) known v h =
    let p = and_parts (valid_rule r) (all valid_rule l) v in
    pass-word l (widen r known) p.1 (widen-word known r (rule-parts r p.0).0 h)

-- what the rules of a list make of a set, one after the other: one rule more
module _ (F : List Rule → ℕ → ℕ) (f : Rule → ℕ → ℕ) (none : (x : ℕ) → F [] x ≡ x)
    (one : (r : Rule) (l : List Rule) (x : ℕ) → F (r ∷ l) x ≡ F l (f r x)) where
  rules-suc : (l : List Rule) (i x : ℕ) → i < length l → F (take (suc i) l) x ≡ f (get_or l i no_rule) (F (take i l) x)
  rules-suc [] i x h = absurd (not-suc-le-zero h)
  rules-suc (r ∷ l) zero x h = one r [] x ∙ none (f r x) ∙ ap (f r) (sym (none x))
  rules-suc (r ∷ l) (suc i) x h =
      one r (take (suc i) l) x ∙ rules-suc l i (f r x) (le_of_suc-le-suc h) ∙ ap (f (get_or l i no_rule)) (sym (one r (take i l) x))

  pub rules-next : (l : List Rule) (i x : ℕ) → i < length l → F (take (i + 1) l) x ≡ f (get_or l i no_rule) (F (take i l) x)
  rules-next l i x h = rw add-one (rules-suc l i x h)

pub pass-next : (l : List Rule) (i known : ℕ) → i < length l → pass (take (i + 1) l) known ≡ widen (get_or l i no_rule) (pass (take i l) known)
unfolding pass
pass-next = rules-next pass widen (λ x. refl) (λ r l x. refl)

-- the steps of the loop over the used rules
pub pass-again : (l : List Rule) (i known s t : ℕ) → s ≡ pass (take i l) known → t ≡ widen (get_or l i no_rule) s → i < length l
    → t ≡ pass (take (i + 1) l) known
pass-again l i known s t e f h = f ∙ ap (widen (get_or l i no_rule)) e ∙ sym (pass-next l i known h)

pub pass-last : (l : List Rule) (i known s : ℕ) → s ≡ pass (take i l) known → length l ≤ i → s ≡ pass l known
pass-last l i known s e h = e ∙ ap (λ (x : List Rule). pass x known) (take_all i l h)

-- if a pass adds nothing, no rule adds anything
pub pass_same : (l : List Rule) (known : ℕ) → pass l known ≡ known → (i : ℕ) → i < length l → widen (get_or l i no_rule) known ≡ known
unfolding pass
pass_same [] known e i h = absurd (not-suc-le-zero h)
pass_same (r ∷ l) known e zero h = omega (arith, widen-le known r, pass_le l (widen r known))
pass_same (r ∷ l) known e (suc i) h =
    let w : widen r known ≡ known = omega (arith, widen-le known r, pass_le l (widen r known)) in
    pass_same l known (ap (pass l) (sym w) ∙ e) i (le_of_suc-le-suc h)

-- ---- a pass adds nothing, or the set has more members

-- w is v, or it has more members
abbrev pub Grown : ℕ → ℕ → Type 0
Grown v w = (w ≡ v) ⊎ (card v < card w)

insert-grown : (k w : ℕ) → k < 32 → Grown w (insert k w)
insert-grown k w h = by-test (has k w)
    (λ e. inl (insert-old k w e))
    (λ e. inr (card-strict w (insert k w) k h (λ j m. has-insert j k w m) e (has-insert-same k w)))

widen-grown : (known : ℕ) (r : Rule) → r.left ≤ 31 → Grown known (widen r known)
widen-grown known r h = widen-cases known r (Grown known) (inl refl) (λ e. insert-grown r.left known (omega arith))

grown-twice : (u v w : ℕ) → Grown u v → Grown v w → Grown u w
grown-twice u v w (inl e) q = subst (λ (x : ℕ). Grown x w) e q
grown-twice u v w (inr h) (inl e) = inr (subst (λ (x : ℕ). card u < card x) (sym e) h)
grown-twice u v w (inr h) (inr k) = inr (omega arith)

pub pass-grown : (l : List Rule) (known : ℕ) → all valid_rule l ≡ true → Grown known (pass l known)
unfolding pass all
pass-grown [] known v = inl refl
pass-grown (r ∷ l) known v =
    let p = and_parts (valid_rule r) (all valid_rule l) v in
    grown-twice known (widen r known) (pass l (widen r known))
    (widen-grown known r (rule-parts r p.0).0) (pass-grown l (widen r known) p.1)
