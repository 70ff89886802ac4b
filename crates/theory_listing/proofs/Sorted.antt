-- Every listing is in order: each member is before all later ones. Assumes nothing.
use Prim.Native.Nat.{ℕ, zero, suc, ◌<◌}
use mathlib.Core.Bool.{not}
use mathlib.Core.List.Memᴰ
use mathlib.Core.List.{List, [], ◌∷◌, Memᴰ}
use mathlib.Core.Path.{◌≡◌}
use lib.ListN.{length, take, drop}
use Rattle.cfg.specs.Grammar.{Cfg, fits}
use Rattle.cfg.specs.Derivation.{◌≺◌, first_less, first_same}
use Rattle.cfg.specs.Listing.{over, from, Span, among, Numbered, rules_from, Item, eat, find, resume, up_to, listing}
use Rattle.theory_listing.proofs.Members.{map_cases, over-cases, when-cases}
use Rattle.theory_listing.proofs.Members.{Pairs, pairs-none, pairs-more, pairs-map, pairs-over, pairs-when}
use Rattle.theory_listing.proofs.Rules.{from-rising, rules_from-rising, LowerNumber}
use Rattle.theory_listing.proofs.Steps.{inside, with_rule, with_cover}

-- if the list for each node is in order, so is the list for the items up to the next node
pub up_to-sorted : (found : ℕ → List Span → List Item → List ℕ → List (List ℕ))
    → ((k : ℕ) (above : List Span) (todo : List Item) (w : List ℕ) → Pairs ◌≺◌ (found k above todo w))
    → (todo : List Item) (w : List ℕ) → Pairs ◌≺◌ (up_to found todo w)
unfolding up_to
up_to-sorted found h [] [] = pairs-more (λ b i. absurd (Memᴰ.not-nil i)) pairs-none
up_to-sorted found h [] (m ∷ w) = pairs-none
up_to-sorted found h (eat t ∷ todo) [] = pairs-none
up_to-sorted found h (eat t ∷ todo) (m ∷ w) = pairs-when (fits t m) (λ _. up_to found todo w) (up_to-sorted found h todo w)
up_to-sorted found h (find k above ∷ todo) w = h k above todo w
up_to-sorted found h (resume v ∷ todo) [] = up_to-sorted found h todo v
up_to-sorted found h (resume v ∷ todo) (m ∷ w) = pairs-none

-- the rows that are listed for a cover start with it
pub with_cover-first : (G : Cfg) (b k : ℕ) (above : List Span) (todo : List Item) (w : List ℕ) (c : ℕ) {e : List ℕ}
    → Memᴰ e (with_cover G b k above todo w c) → (d : List ℕ) × (e ≡ c ∷ d)
with_cover-first G b k above todo w c i =
    let (_, x) = when-cases (not (among k c above)) (λ _. over (rules_from k 0 G.rules) (with_rule G b k above todo w c)) i in
    let (ρ, _, y) = over-cases (rules_from k 0 G.rules) (with_rule G b k above todo w c) x in
    let m = map_cases (λ d. c ∷ ρ.number ∷ d) (listing G b (inside above k c ρ.places (drop c w) todo) (take c w)) y in
    (ρ.number ∷ m.0, m.2)

-- a smaller first number comes before
pub covers-sorted : {c d : ℕ} {x y : List ℕ} → c < d → (u : List ℕ) × (x ≡ c ∷ u) → (v : List ℕ) × (y ≡ d ∷ v) → x ≺ y
covers-sorted {x = x} h p q = rw (p.1, q.1) (first_less h)

pub numbers-sorted : {c r s : ℕ} {u v x y : List ℕ} → r < s → x ≡ c ∷ r ∷ u → y ≡ c ∷ s ∷ v → x ≺ y
numbers-sorted h p q = rw (p, q) (first_same (first_less h))

pub with_cover-sorted : (G : Cfg) (b k : ℕ) (above : List Span) (todo : List Item) (w : List ℕ) (c : ℕ)
    → ((t : List Item) (u : List ℕ) → Pairs ◌≺◌ (listing G b t u)) → Pairs ◌≺◌ (with_cover G b k above todo w c)
with_cover-sorted G b k above todo w c h =
    pairs-when (not (among k c above)) (λ _. over (rules_from k 0 G.rules) (with_rule G b k above todo w c))
    (pairs-over {R = LowerNumber} (with_rule G b k above todo w c)
    (λ ρ. pairs-map {R = ◌≺◌} (λ e. c ∷ ρ.number ∷ e) (λ d e q. first_same (first_same q))
    (h (inside above k c ρ.places (drop c w) todo) (take c w)))
    rules (rules_from-rising k 0 G.rules))
  where
    rules : (ρ σ : Numbered) → LowerNumber ρ σ → (d e : List ℕ) → Memᴰ d (with_rule G b k above todo w c ρ)
        → Memᴰ e (with_rule G b k above todo w c σ) → d ≺ e
    rules ρ σ q d e i j =
        numbers-sorted q (map_cases (λ z. c ∷ ρ.number ∷ z) (listing G b (inside above k c ρ.places (drop c w) todo) (take c w)) i).2
        (map_cases (λ z. c ∷ σ.number ∷ z) (listing G b (inside above k c σ.places (drop c w) todo) (take c w)) j).2

pub listing-sorted : (G : Cfg) (b : ℕ) (todo : List Item) (w : List ℕ) → Pairs ◌≺◌ (listing G b todo w)
unfolding listing
listing-sorted G zero = up_to-sorted (λ k above todo w. []) (λ k above todo w. pairs-none)
listing-sorted G (suc b) =
    up_to-sorted (λ k above todo w. over (from 0 (suc (length w))) (with_cover G b k above todo w))
    (λ k above todo w. pairs-over {R = ◌<◌} (with_cover G b k above todo w)
    (λ c. with_cover-sorted G b k above todo w c (listing-sorted G b))
    (λ c d q x y i j. covers-sorted q (with_cover-first G b k above todo w c i) (with_cover-first G b k above todo w d j))
    (from-rising 0 (suc (length w))))
