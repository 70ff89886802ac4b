-- The list of rows item by item: what `listing` gives for each first item, for any budget, and what its members are. Assumes nothing.
use Prim.Native.Nat.{ℕ, zero, suc, ◌≤◌}
use mathlib.Core.Bool.{true, false, not}
use mathlib.Core.List.Memᴰ
use mathlib.Core.List.{List, [], ◌∷◌, ◌++◌, map, Memᴰ}
use mathlib.Core.Path.{◌≡◌, refl, ap, subst}
use lib.ListN.{length, take, drop, length-append}
use lib.Seq.{take-append_seam, drop-append_seam}
use native.Mathlib.Omega.{arith}
use borrow.Author.Tests.{not-true}
use Rattle.cfg.specs.Grammar.{Cfg, Symbol, Terminal, fits, Of}
use Rattle.cfg.specs.Listing.{over, when, from, Span, among, Numbered, rules_from, Item, eat, find, resume, items, up_to, listing}
use Rattle.theory_listing.proofs.Members.{map_cases, map-member, over-cases, over-member, when-cases, when-member}
use Rattle.theory_listing.proofs.Rules.{from-cases, from_member, rules-cases, rules-member}
use Rattle.theory_listing.proofs.Fit.{span}

pub listing-eat : (G : Cfg) (b : ℕ) (t : Terminal) (todo : List Item) (m : ℕ) (w : List ℕ)
    → listing G b (eat t ∷ todo) (m ∷ w) ≡ when (fits t m) (λ _. listing G b todo w)
unfolding listing up_to
listing-eat G zero t todo m w = refl
listing-eat G (suc b) t todo m w = refl

pub listing-resume : (G : Cfg) (b : ℕ) (v : List ℕ) (todo : List Item) → listing G b (resume v ∷ todo) [] ≡ listing G b todo v
unfolding listing up_to
listing-resume G zero v todo = refl
listing-resume G (suc b) v todo = refl

-- the items of a node's own row, and what comes after it
abbrev pub inside : List Span → ℕ → ℕ → List Symbol → List ℕ → List Item → List Item
inside above k c places v todo = items (span k c ∷ above) places ++ resume v ∷ todo

-- the rows that start with a node of this cover and this rule
abbrev pub with_rule : Cfg → ℕ → ℕ → List Span → List Item → List ℕ → ℕ → Numbered → List (List ℕ)
with_rule G b k above todo w c ρ = map (λ e. c ∷ ρ.number ∷ e) (listing G b (inside above k c ρ.places (drop c w) todo) (take c w))

-- the rows that start with a node of this cover
abbrev pub with_cover : Cfg → ℕ → ℕ → List Span → List Item → List ℕ → ℕ → List (List ℕ)
with_cover G b k above todo w c = when (not (among k c above)) (λ _. over (rules_from k 0 G.rules) (with_rule G b k above todo w c))

pub listing-none-cases : (G : Cfg) (b : ℕ) (w : List ℕ) {e : List ℕ} → Memᴰ e (listing G b [] w) → (w ≡ []) × (e ≡ [])
unfolding listing up_to
listing-none-cases G zero [] h = (refl, Memᴰ.eq_of_singleton h)
listing-none-cases G zero (m ∷ w) h = absurd (Memᴰ.not-nil h)
listing-none-cases G (suc b) [] h = (refl, Memᴰ.eq_of_singleton h)
listing-none-cases G (suc b) (m ∷ w) h = absurd (Memᴰ.not-nil h)

pub listing-none-member : (G : Cfg) (b : ℕ) → Memᴰ [] (listing G b [] [])
unfolding listing up_to
listing-none-member G zero = Memᴰ.head refl
listing-none-member G (suc b) = Memᴰ.head refl

pub listing-resume-cases : (G : Cfg) (b : ℕ) (v : List ℕ) (todo : List Item) (w : List ℕ) {e : List ℕ}
    → Memᴰ e (listing G b (resume v ∷ todo) w) → (w ≡ []) × Memᴰ e (listing G b todo v)
unfolding listing up_to
listing-resume-cases G b v todo [] {e} h = (refl, subst (Memᴰ e) (listing-resume G b v todo) h)
listing-resume-cases G zero v todo (m ∷ w) h = absurd (Memᴰ.not-nil h)
listing-resume-cases G (suc b) v todo (m ∷ w) h = absurd (Memᴰ.not-nil h)

-- a row that starts with a leaf
pub record Eaten (G : Cfg) (b : ℕ) (t : Terminal) (todo : List Item) (w e : List ℕ) : Type 0 where
  pub first : ℕ
  pub others : List ℕ
  pub bytes : w ≡ first ∷ others
  pub fits : fits t first ≡ true
  pub listed : Memᴰ e (listing G b todo others)

pub listing-eat-cases : (G : Cfg) (b : ℕ) (t : Terminal) (todo : List Item) (w : List ℕ) {e : List ℕ}
    → Memᴰ e (listing G b (eat t ∷ todo) w) → Eaten G b t todo w e
unfolding listing up_to
listing-eat-cases G zero t todo [] h = absurd (Memᴰ.not-nil h)
listing-eat-cases G (suc b) t todo [] h = absurd (Memᴰ.not-nil h)
listing-eat-cases G b t todo (m ∷ w) {e} h =
    let r = when-cases (fits t m) (λ _. listing G b todo w) (subst (Memᴰ e) (listing-eat G b t todo m w) h) in
    record { first = m; others = w; bytes = refl; fits = r.0; listed = r.1 }

-- a row that starts with a node
pub record Found (G : Cfg) (b k : ℕ) (above : List Span) (todo : List Item) (w e : List ℕ) : Type 0 where
  pub left : ℕ
  pub spent : b ≡ suc left
  pub cover : ℕ
  pub covers : cover ≤ length w
  pub fresh : among k cover above ≡ false
  pub number : ℕ
  pub o : Of G number k
  pub rest : List ℕ
  pub coded : e ≡ cover ∷ number ∷ rest
  pub listed : Memᴰ rest (listing G left (inside above k cover o.the.places (drop cover w) todo) (take cover w))

pub listing-find-cases : (G : Cfg) (b k : ℕ) (above : List Span) (todo : List Item) (w : List ℕ) {e : List ℕ}
    → Memᴰ e (listing G b (find k above ∷ todo) w) → Found G b k above todo w e
unfolding listing up_to
listing-find-cases G zero k above todo w h = absurd (Memᴰ.not-nil h)
listing-find-cases G (suc b) k above todo w {e} h =
    let (c, i, x) = over-cases (from 0 (suc (length w))) (with_cover G b k above todo w) h in
    let (n, y) = when-cases (not (among k c above)) (λ _. over (rules_from k 0 G.rules) (with_rule G b k above todo w c)) x in
    let (ρ, j, z) = over-cases (rules_from k 0 G.rules) (with_rule G b k above todo w c) y in
    let (o, q) = rules-cases G k j in
    assemble c i n ρ o q
    (map_cases (λ d. c ∷ ρ.number ∷ d) (listing G b (inside above k c ρ.places (drop c w) todo) (take c w)) z)
  where
    assemble : (c : ℕ) → Memᴰ c (from 0 (suc (length w))) → not (among k c above) ≡ true → (ρ : Numbered) (o : Of G ρ.number k)
        → ρ.places ≡ o.the.places
        → (d : List ℕ) × Memᴰ d (listing G b (inside above k c ρ.places (drop c w) todo) (take c w)) × (e ≡ c ∷ ρ.number ∷ d)
        → Found G (suc b) k above todo w e
    assemble c i n ρ o q m = record {
      left = b;
      spent = refl;
      cover = c;
      covers = let z = from-cases 0 (suc (length w)) i in omega arith;
      fresh = not-true (among k c above) n;
      number = ρ.number;
      o = o;
      rest = m.0;
      coded = m.2;
      listed = subst (λ l. Memᴰ m.0 (listing G b (inside above k c l (drop c w) todo) (take c w))) q m.1;
    }

pub listing-find-member : (G : Cfg) (b k r : ℕ) (above : List Span) (todo : List Item) (u v : List ℕ) (o : Of G r k) {e : List ℕ}
    → among k (length u) above ≡ false → Memᴰ e (listing G b (inside above k (length u) o.the.places v todo) u)
    → Memᴰ (length u ∷ r ∷ e) (listing G (suc b) (find k above ∷ todo) (u ++ v))
unfolding listing up_to
listing-find-member G b k r above todo u v o {e} new h =
    over-member {a = length u} (with_cover G b k above todo (u ++ v)) first
    (when-member (not (among k (length u) above)) (λ _. over (rules_from k 0 G.rules) (with_rule G b k above todo (u ++ v) (length u)))
    (ap not new)
    (over-member (with_rule G b k above todo (u ++ v) (length u)) (rules-member G k r o)
    (map-member (λ d. length u ∷ r ∷ d) listed)))
  where
    first : Memᴰ (length u) (from 0 (suc (length (u ++ v))))
    first = let z = length-append u v in from_member 0 (suc (length (u ++ v))) (length u) (omega arith) (omega arith)

    listed : Memᴰ e
        (listing G b (inside above k (length u) o.the.places (drop (length u) (u ++ v)) todo) (take (length u) (u ++ v)))
    listed = rw (take-append_seam u v, drop-append_seam u v) h
