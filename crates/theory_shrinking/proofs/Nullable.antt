-- If every rule's left side is below 32, a nonterminal that has a parse tree over nothing has one of height at most 32: without
-- superfluous recursion no nonterminal is twice on a path from the root. Assumes nothing.
use Prim.Native.Nat.{ℕ, zero, suc, ◌≤◌, ◌<◌}
use native.Mathlib.Nat.{not-suc-le-zero}
use native.Mathlib.Decide.{ℕ_discrete}
use native.Mathlib.Omega.{arith}
use mathlib.Core.Logic.{◌≢◌, dite}
use mathlib.Core.Path.{◌≡◌, refl, sym, ap, ◌∙◌, subst}
use mathlib.Core.List.{List, [], ◌∷◌, ◌++◌, Memᴰ, cons-ne-nil}
use lib.ListN.{length}
use Rattle.cfg.specs.Grammar.{Cfg, Symbol, Of}
use Rattle.cfg.specs.Tree.{Forest, yield, height, Fits, fits_end, fits_leaf, fits_node, Parse}
use Rattle.cfg.specs.Derivation.{Has, has_here, has_below, has_beside, has_after, Superfluous, super_here, super_below, super_beside}
use Rattle.theory_shrinking.proofs.Decide.{of-same}
use Rattle.theory_shrinking.proofs.Shrink.{shrink}

-- the numbers below n
unfoldable pub numbers-below : ℕ → List ℕ
numbers-below zero = []
numbers-below (suc n) = n ∷ numbers-below n

pub numbers-below-length : (n : ℕ) → length (numbers-below n) ≡ n
unfolding numbers-below
numbers-below-length zero = refl
numbers-below-length (suc n) = ap suc (numbers-below-length n)

pub numbers-below-mem : (n j : ℕ) → j < n → Memᴰ j (numbers-below n)
unfolding numbers-below
numbers-below-mem zero j l = absurd (not-suc-le-zero l)
numbers-below-mem (suc n) j l = dite (ℕ_discrete j n)
    (λ e. Memᴰ.head e)
    (λ d. Memᴰ.tail (numbers-below-mem n j (omega arith)))

-- `left` is the list l without one occurrence of k; it still has every other number of l
pub record Less (k : ℕ) (l : List ℕ) : Type 0 where
  pub left : List ℕ
  pub size : length l ≡ suc (length left)
  pub other : (j : ℕ) → Memᴰ j l → j ≢ k → Memᴰ j left

pub less : (k : ℕ) (l : List ℕ) → Memᴰ k l → Less k l
less k [] x' = elim x' [ ]
less k (x ∷ l) (Memᴰ.head e) = record { left = l; size = refl; other = other }
  where
    other : (j : ℕ) → Memᴰ j (x ∷ l) → j ≢ k → Memᴰ j l
    other j (Memᴰ.head d) n = absurd (n (d ∙ sym e))
    other j (Memᴰ.tail m) n = m
less k (x ∷ l) (Memᴰ.tail m) = more (less k l m)
  where
    other : (L : Less k l) (j : ℕ) → Memᴰ j (x ∷ l) → j ≢ k → Memᴰ j (x ∷ L.left)
    other L j (Memᴰ.head d) n = Memᴰ.head d
    other L j (Memᴰ.tail i) n = Memᴰ.tail (L.other j i n)

    more : Less k l → Less k (x ∷ l)
    more L = record { left = x ∷ L.left; size = ap suc L.size; other = other L }

-- if two lists together are empty, each of them is
pub append-empty-left : (x y : List ℕ) → x ++ y ≡ [] → x ≡ []
append-empty-left [] y e = refl
append-empty-left (a ∷ x) y e = cc

pub append-empty-right : (x y : List ℕ) → x ++ y ≡ [] → y ≡ []
append-empty-right [] y e = e
append-empty-right (a ∷ x) y e = cc

-- a row over nothing, without superfluous recursion, is no higher than a list with all its nonterminals is long
pub empty-low : (G : Cfg) {places : List Symbol} {t : Forest} (free : List ℕ) → Fits G places t → yield t ≡ [] → ¬ Superfluous G t
    → ((j : ℕ) → Has G j 0 t → Memᴰ j free) → height t ≤ length free
unfolding yield height
empty-low G free fits_end e p h = omega arith
empty-low G free (fits_leaf {m} {rest} f s) e p h = absurd (cons-ne-nil m (yield rest) e)
empty-low G free (fits_node {k} {below = b} {rest} o f s) e p h =
    let eb : yield b ≡ [] = append-empty-left (yield b) (yield rest) e in
    let lb : length (yield b) ≡ 0 = ap length eb in
    let L = less k free (h k (has_here o lb)) in
    let hb = empty-low G L.left f eb (λ q. p (super_below q)) (λ j q. L.other j (h j (has_below q)) (distinct lb j q)) in
    let hs = empty-low G free s (append-empty-right (yield b) (yield rest) e) (λ q. p (super_beside q)) (λ j q. h j (has_beside q)) in
    omega arith
  where
    distinct : length (yield b) ≡ 0 → (j : ℕ) → Has G j 0 b → j ≢ k
    distinct lb j q d = p (super_here (of-same G (sym d) o) (subst (λ (n : ℕ). Has G j n b) (sym lb) q))

-- each nonterminal in a row has a rule
pub has_of : (G : Cfg) {k n : ℕ} {t : Forest} → Has G k n t → (r : ℕ) × Of G r k
has_of G (has_here {r} o e) = (r, o)
has_of G (has_below h) = has_of G h
has_of G (has_beside h) = has_of G h
has_of G (has_after h) = has_of G h

-- if every rule's left side is below b, there is a parse tree over nothing of height at most b
pub empty-parse-low : (G : Cfg) (b : ℕ) {k : ℕ} {t : Forest} → ((r j : ℕ) → Of G r j → j < b) → Parse G k [] t
    → (u : Forest) × Parse G k [] u × (height u ≤ b)
empty-parse-low G b l p =
    let S = shrink G p.0 in
    let e = S.same ∙ p.1 in
    let low = empty-low G (numbers-below b) S.fitted e S.plain
    (λ j h. let (r, o) = has_of G h in numbers-below-mem b j (l r j o)) in
    (S.row, (S.fitted, e), subst (λ (n : ℕ). height S.row ≤ n) (numbers-below-length b) low)

pub nullable-low : (G : Cfg) {k : ℕ} {t : Forest} → ((r j : ℕ) → Of G r j → j < 32) → Parse G k [] t
    → (u : Forest) × Parse G k [] u × (height u ≤ 32)
nullable-low G l p = empty-parse-low G 32 l p
