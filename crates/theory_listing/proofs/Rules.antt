-- The numbers that `from` gives and the rules that `rules_from` gives are exactly those that are meant, in rising order. Assumes nothing.
use Prim.Native.Nat.{ℕ, zero, suc, ◌+◌, ◌≤◌, ◌<◌}
use mathlib.Core.Bool.{Bool, true, false}
use mathlib.Core.List.Memᴰ
use mathlib.Core.List.{List, [], ◌∷◌, Memᴰ}
use mathlib.Core.Logic.{dite}
use mathlib.Core.Option.{Option, none, some, none-ne-some}
use mathlib.Core.Path.{◌≡◌, refl, sym, ap, subst, ◌∙◌}
use lib.Dec.{eqb}
use lib.ListN.{get_elem?}
use native.Mathlib.Decide.{ℕ_discrete}
use native.Mathlib.Nat.{zero-add}
use native.Mathlib.Omega.{arith}
use borrow.Author.Tests.{eq-eqb, eqb-true}
use Rattle.cfg.specs.Grammar.{Cfg, Rule, Of, rule, joined}
use Rattle.cfg.specs.Listing.{from, keep, rules_from, Numbered}
use Rattle.theory_listing.proofs.Members.{Pairs, pairs-none, pairs-more}

pub from-cases : (a n : ℕ) {c : ℕ} → Memᴰ c (from a n) → (a ≤ c) × (c < a + n)
unfolding from
from-cases a zero h = absurd (Memᴰ.not-nil h)
from-cases a (suc n) {c} (Memᴰ.head e) = omega arith
from-cases a (suc n) {c} (Memᴰ.tail h) = let r = from-cases (suc a) n h in omega arith

pub from_member : (a n c : ℕ) → a ≤ c → c < a + n → Memᴰ c (from a n)
unfolding from
from_member a zero c h k = absurd (omega arith)
from_member a (suc n) c h k = dite (ℕ_discrete c a)
    (λ e. Memᴰ.head e)
    (λ d. Memᴰ.tail (from_member (suc a) n c (omega arith) (omega arith)))

pub from-rising : (a n : ℕ) → Pairs ◌<◌ (from a n)
unfolding from
from-rising a zero = pairs-none
from-rising a (suc n) = pairs-more (λ b i. (from-cases (suc a) n i).0) (from-rising (suc a) n)

-- a rule with a number
abbrev pub numbered : ℕ → Rule → Numbered
numbered r o = record { number = r; places = o.places }

-- ρ is a rule of k at some place of l, and the places are numbered from s on
pub record Named (k s : ℕ) (l : List (Option Rule)) (ρ : Numbered) : Type 0 where
  pub place : ℕ
  pub number : ρ.number ≡ s + place
  pub the : Rule
  pub here : joined (get_elem? l place) ≡ some the
  pub left : the.left ≡ k
  pub places : ρ.places ≡ the.places

pub named-later : {k s : ℕ} {o : Option Rule} {l : List (Option Rule)} {ρ : Numbered} → Named k (suc s) l ρ → Named k s (o ∷ l) ρ
named-later n = record {
  place = suc n.place;
  number = omega arith;
  the = n.the;
  here = n.here;
  left = n.left;
  places = n.places;
}

pub rules_from-cases : (k s : ℕ) (l : List (Option Rule)) {ρ : Numbered} → Memᴰ ρ (rules_from k s l) → Named k s l ρ
unfolding rules_from keep joined
rules_from-cases k s [] h = absurd (Memᴰ.not-nil h)
rules_from-cases k s (none ∷ l) {ρ} h = named-later (rules_from-cases k (suc s) l h)
rules_from-cases k s (some o ∷ l) {ρ} h = go (eqb o.left k) refl h (λ i. named-later (rules_from-cases k (suc s) l i))
  where
    go : (t : Bool) → eqb o.left k ≡ t
        → Memᴰ ρ (elim t [ true ↦ numbered s o ∷ rules_from k (suc s) l | false ↦ rules_from k (suc s) l ])
        → (Memᴰ ρ (rules_from k (suc s) l) → Named k s (some o ∷ l) ρ) → Named k s (some o ∷ l) ρ
    go true t (Memᴰ.head e) f = record {
      place = 0;
      number = let q : ρ.number ≡ s = ap (λ x. x.number) e in omega arith;
      the = o;
      here = refl;
      left = eqb-true o.left k t;
      places = ap (λ x. x.places) e;
    }
    go true t (Memᴰ.tail i) f = f i
    go false t i f = f i

pub keep-later : (k r : ℕ) (o : Option Rule) {l : List Numbered} {ρ : Numbered} → Memᴰ ρ l → Memᴰ ρ (keep k r o l)
unfolding keep
keep-later k r none h = h
keep-later k r (some o) {l} {ρ} h = elim (eqb o.left k) as (λ t. Memᴰ ρ (elim t [ true ↦ numbered r o ∷ l | false ↦ l ])) [
  | true ↦ Memᴰ.tail h
  | false ↦ h
]

pub keep-now : (k r : ℕ) (o : Rule) (l : List Numbered) → o.left ≡ k
    → Memᴰ (numbered r o) (keep k r (some o) l)
unfolding keep
keep-now k r o l e = rw (eq-eqb o.left k e, keep) (Memᴰ.head refl)

pub rules_from-member : (k s i r : ℕ) (l : List (Option Rule)) (o : Rule) → r ≡ s + i → joined (get_elem? l i) ≡ some o → o.left ≡ k
    → Memᴰ (numbered r o) (rules_from k s l)
unfolding rules_from joined
rules_from-member k s i r [] o e h q = absurd (none-ne-some o h)
rules_from-member k s zero r (p ∷ l) o e h q =
    let n : s ≡ r = omega arith in
    subst (λ x. Memᴰ (numbered r o) (keep k s x (rules_from k (suc s) l))) (sym h)
    (subst (λ x. Memᴰ (numbered r o) (keep k x (some o) (rules_from k (suc s) l))) (sym n) (keep-now k r o (rules_from k (suc s) l) q))
rules_from-member k s (suc i) r (p ∷ l) o e h q = keep-later k s p (rules_from-member k (suc s) i r l o (omega arith) h q)

-- one rule has a lower number than another
abbrev pub LowerNumber : Numbered → Numbered → Type 0
LowerNumber ρ σ = ρ.number < σ.number

pub keep-rising : (k r : ℕ) (o : Option Rule) {l : List Numbered} → Pairs LowerNumber l
    → ((σ : Numbered) → Memᴰ σ l → r < σ.number) → Pairs LowerNumber (keep k r o l)
unfolding keep
keep-rising k r none p h = p
keep-rising k r (some o) {l} p h = elim (eqb o.left k) as (λ t. Pairs LowerNumber (elim t [ true ↦ numbered r o ∷ l | false ↦ l ])) [
  | true ↦ pairs-more h p
  | false ↦ p
]

pub rules_from-rising : (k s : ℕ) (l : List (Option Rule)) → Pairs LowerNumber (rules_from k s l)
unfolding rules_from
rules_from-rising k s [] = pairs-none
rules_from-rising k s (p ∷ l) =
    keep-rising k s p (rules_from-rising k (suc s) l) (λ σ i. let e = (rules_from-cases k (suc s) l i).number in omega arith)

-- the rules of a nonterminal of a grammar
pub rules-cases : (G : Cfg) (k : ℕ) {ρ : Numbered} → Memᴰ ρ (rules_from k 0 G.rules)
    → (o : Of G ρ.number k) × (ρ.places ≡ o.the.places)
rules-cases G k {ρ} h =
    let n = rules_from-cases k 0 G.rules h in
    let q : n.place ≡ ρ.number = sym (n.number ∙ zero-add n.place) in
    (record { the = n.the; here = subst (λ i. rule G i ≡ some n.the) q n.here; left = n.left }, n.places)

pub rules-member : (G : Cfg) (k r : ℕ) (o : Of G r k) → Memᴰ (numbered r o.the) (rules_from k 0 G.rules)
rules-member G k r o = rules_from-member k 0 r r G.rules o.the (omega arith) o.here o.left
