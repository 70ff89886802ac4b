-- Equal texts of forests are equal forests, if the texts of the rules tell the rules apart. Assumes nothing.
use Prim.Native.Nat.{ℕ, ◌+◌, ◌/◌, ◌%◌, ◌<◌}
use native.Mathlib.Omega.{arith}
use mathlib.Core.Bool.{Bool, true, false, cond}
use mathlib.Core.List.{List, [], ◌∷◌, ◌++◌, append_assoc, append_cancel_left, head-eq_of_cons-eq, tail-eq_of_cons-eq}
use mathlib.Core.Path.{◌≡◌, refl, sym, ap, ap₂, ◌∙◌}
use lib.Dec.{ltb}
use borrow.Author.Tests.{ltb-true, ltb-false}
use Rattle.cfg.specs.Tree.{Forest, end, leaf, node}
use Rattle.theory_words.specs.Name.{hex_digit}
use Rattle.theory_words.specs.Words.{opening, closing, leaf_text, following, forest_text}
use Rattle.theory_words.specs.Telling.{first_byte, Telling}
use Rattle.theory_words.proofs.Rules.{RulesBelow, below_end, below-leaf, below-node}

-- a digit is known by its byte
pub digit-same : (a b : ℕ) → hex_digit a ≡ hex_digit b → a ≡ b
unfolding hex_digit
digit-same a b e = go (ltb a 10) (ltb b 10) refl refl e
  where
    go : (x y : Bool) → ltb a 10 ≡ x → ltb b 10 ≡ y → cond x (0x30 + a) (0x37 + a) ≡ cond y (0x30 + b) (0x37 + b) → a ≡ b
    go true true p q f = omega arith
    go true false p q f = absurd (omega (arith, ltb-true a 10 p, ltb-false b 10 q))
    go false true p q f = absurd (omega (arith, ltb-false a 10 p, ltb-true b 10 q))
    go false false p q f = omega arith

pub byte-same : (m n : ℕ) → hex_digit (m / 16) ≡ hex_digit (n / 16) → hex_digit (m % 16) ≡ hex_digit (n % 16) → m ≡ n
byte-same m n p q =
    let high = digit-same (m / 16) (n / 16) p in
    let low = digit-same (m % 16) (n % 16) q in
    omega arith

-- two rows of places with texts a and b, each after a place and followed by something that is empty or begins with `)`
follow-same : (t u : Forest) (a b x y : List ℕ) → first_byte x ≡ closing → first_byte y ≡ closing
    → (a ++ x ≡ b ++ y → (t ≡ u) × (x ≡ y))
    → following t a ++ x ≡ following u b ++ y → (t ≡ u) × (x ≡ y)
unfolding following
follow-same end end a b x y h k same e = (refl, e)
follow-same end (leaf n u) a b x y h k same e = absurd (omega (arith, ap first_byte e))
follow-same end (node s c u) a b x y h k same e = absurd (omega (arith, ap first_byte e))
follow-same (leaf m t) end a b x y h k same e = absurd (omega (arith, ap first_byte e))
follow-same (node r c t) end a b x y h k same e = absurd (omega (arith, ap first_byte e))
follow-same (leaf m t) (leaf n u) a b x y h k same e = same (tail-eq_of_cons-eq e)
follow-same (leaf m t) (node s c u) a b x y h k same e = same (tail-eq_of_cons-eq e)
follow-same (node r c t) (leaf n u) a b x y h k same e = same (tail-eq_of_cons-eq e)
follow-same (node r c t) (node s d u) a b x y h k same e = same (tail-eq_of_cons-eq e)

module _ (names : ℕ → List ℕ) where
  -- what follows a place, with x after the last
  abbrev follows : Forest → List ℕ → List ℕ
  follows rest x = following rest (forest_text names rest) ++ x

  -- the text of a node with siblings from its `(` on, and x after the last
  abbrev after : Forest → Forest → List ℕ → List ℕ
  after below rest x = forest_text names below ++ (closing ∷ follows rest x)

  node-text : (r : ℕ) (below rest : Forest) (x : List ℕ)
      → forest_text names (node r below rest) ++ x ≡ names r ++ (opening ∷ after below rest x)
  unfolding forest_text
  node-text r below rest x = simp append_assoc

module _ {n : ℕ} {names : ℕ → List ℕ} (telling : Telling n names) where
  -- a node does not begin as what follows a row, or as a leaf
  node-not-end : {r : ℕ} (below rest : Forest) (x y : List ℕ) → r < n → first_byte y ≡ closing
      → forest_text names (node r below rest) ++ x ≡ y → ⊥
  node-not-end {r} below rest x y h k e =
      telling.not_end r (after names below rest x) h (ap first_byte (sym (node-text names r below rest x) ∙ e) ∙ k)

  node-not-leaf : {r : ℕ} (below rest t : Forest) (m : ℕ) (x y : List ℕ) → r < n
      → forest_text names (node r below rest) ++ x ≡ forest_text names (leaf m t) ++ y → ⊥
  unfolding forest_text leaf_text
  node-not-leaf {r} below rest t m x y h e =
      telling.not_leaf r (after names below rest x) h (ap first_byte (sym (node-text names r below rest x) ∙ e))

  -- equal texts of nodes are of one rule, and equal from the `(` on
  node-parts : {r s : ℕ} (a t b u : Forest) (x y : List ℕ) → r < n → s < n
      → forest_text names (node r a t) ++ x ≡ forest_text names (node s b u) ++ y → (r ≡ s) × (after names a t x ≡ after names b u y)
  node-parts {r} {s} a t b u x y h k e =
      let one = opening ∷ after names a t x in
      let other = opening ∷ after names b u y in
      let both : names r ++ one ≡ names s ++ other = sym (node-text names r a t x) ∙ e ∙ node-text names s b u y in
      let same = telling.apart r s (after names a t x) (after names b u y) h k both in
      (same, tail-eq_of_cons-eq (append_cancel_left (names r) one other (both ∙ ap (λ i. names i ++ other) (sym same))))

  -- rows of places, each followed by something that is empty or begins with `)`
  row_same : {t u : Forest} (x y : List ℕ) → RulesBelow n t → RulesBelow n u → first_byte x ≡ closing → first_byte y ≡ closing
      → forest_text names t ++ x ≡ forest_text names u ++ y → (t ≡ u) × (x ≡ y)
  unfolding forest_text leaf_text
  row_same x y below_end below_end h k e = (refl, e)
  row_same x y below_end (below-leaf f) h k e = absurd (omega (arith, ap first_byte e))
  row_same x y (below-leaf f) below_end h k e = absurd (omega (arith, ap first_byte e))
  row_same x y below_end (below-node {below = b} {rest = u} i f g) h k e = absurd (node-not-end b u y x i h (sym e))
  row_same x y (below-node {below = a} {rest = t} i f g) below_end h k e = absurd (node-not-end a t x y i k e)
  row_same x y (below-leaf {m} {rest = t} f) (below-node {below = b} {rest = u} i p q) h k e =
      absurd (node-not-leaf b u t m y x i (sym e))
  row_same x y (below-node {below = a} {rest = t} i f g) (below-leaf {m} {rest = u} p) h k e =
      absurd (node-not-leaf a t u m x y i e)
  row_same x y (below-leaf {m} {rest = t} f) (below-leaf {m = l} {rest = u} p) h k e =
      let high = tail-eq_of_cons-eq e in
      let low = tail-eq_of_cons-eq high in
      let rest = follow-same t u (forest_text names t) (forest_text names u) x y h k (row_same x y f p h k) (tail-eq_of_cons-eq low) in
      (ap₂ leaf (byte-same m l (head-eq_of_cons-eq high) (head-eq_of_cons-eq low)) rest.0, rest.1)
  row_same x y (below-node {below = a} {rest = t} i f g) (below-node {below = b} {rest = u} j p q) h k e =
      let top = node-parts a t b u x y i j e in
      let below = row_same (closing ∷ follows names t x) (closing ∷ follows names u y) f p refl refl top.1 in
      let rest = follow-same t u (forest_text names t) (forest_text names u) x y h k (row_same x y g q h k)
      (tail-eq_of_cons-eq below.1) in
      (λ l. node (top.0 l) (below.0 l) (rest.0 l), rest.1)

  pub forest-same : {t u : Forest} → RulesBelow n t → RulesBelow n u → forest_text names t ≡ forest_text names u → t ≡ u
  forest-same f g e = (row_same [] [] f g refl refl (ap (λ l. l ++ []) e)).0
