-- The length of the text of a derivation is the sum over its nodes and three for each byte of the input. Assumes nothing.
use Prim.Native.Nat.{ℕ, zero, suc, ◌+◌, ◌*◌, ◌-◌}
use native.Mathlib.Omega.{arith}
use mathlib.Core.List.{List, [], ◌∷◌, ◌++◌}
use mathlib.Core.Path.{◌≡◌, refl, sym, ap, ◌∙◌}
use lib.ListN.{length, length-append}
use Rattle.cfg.specs.Grammar.{Symbol}
use Rattle.cfg.specs.Tree.{Forest, end, leaf, node, yield, nodes, code, Fits, fits_end, fits_leaf, fits_node}
use Rattle.cfg.specs.Derivation.{Derivation}
use Rattle.theory_listing.proofs.Unique.{length-code}
use Rattle.theory_words.specs.Words.{leaf_text, following, forest_text, derivation_text}
use Rattle.theory_words.proofs.Derived.{text-of-tree}
use Rattle.packed.specs.Packed.{place_count, places_from, places_in, cfg_in}
use Rattle.packed.proofs.Laws.{of-in}
use Rattle.words_text.specs.Names.{text_in}
use Rattle.words_length.specs.Length.{size_in, size_sum}
use Rattle.words_length.proofs.Sums.{size-used, sum-append}

places-length : (p : List ℕ) (r n q : ℕ) → length (places_from p r q n) ≡ n
unfolding places_from
places-length p r zero q = refl
places-length p r (suc n) q = omega (arith, places-length p r n (suc q))

count-length : (p : List ℕ) (r : ℕ) → length (places_in p r) ≡ place_count p r
unfolding places_in
count-length p r = places-length p r (place_count p r) 0

module _ (names p : List ℕ) (s : ℕ) where
  abbrev text_of : Forest → List ℕ
  text_of = forest_text (text_in names)

  -- what the nodes and the leaves of a forest add, without the commas between its places
  abbrev adds_up : Forest → ℕ
  adds_up t = size_sum (size_in names p) (code t) + 3 * length (yield t)

  -- what follows a place is a comma and the text of the places after it
  after-length : {places : List Symbol} {t : Forest} → Fits (cfg_in s p) places t
      → length (text_of t) ≡ adds_up t + (length places - 1) → length (following t (text_of t)) ≡ adds_up t + length places
  unfolding following forest_text yield code size_sum
  after-length fits_end h = refl
  after-length (fits_leaf _ f) h = omega arith
  after-length (fits_node _ f g) h = omega arith

  forest-length : {places : List Symbol} {t : Forest} → Fits (cfg_in s p) places t → length (text_of t) ≡ adds_up t + (length places - 1)
  unfolding forest_text leaf_text yield code size_sum
  forest-length fits_end = refl
  forest-length (fits_leaf {m = m} {rest = rest} _ f) =
      let after = after-length f (forest-length f) in
      omega (arith, length-append (leaf_text m) (following rest (text_of rest)))
  forest-length (fits_node {k = k} {r = r} {below = below} {rest = rest} o f g) =
      let below_length = forest-length f in
      let after = after-length g (forest-length g) in
      let of = of-in s p r k o in
      let places = ap length of.3 ∙ count-length p r in
      let own = size-used names p r of.0 in
      let rows = sum-append (size_in names p) (code below) (code rest) (nodes below) (length-code below) in
      let bytes = length-append (yield below) (yield rest) in
      let x = length-append (text_of below) (0x29 ∷ following rest (text_of rest)) in
      let y = length-append (text_in names r) (0x28 ∷ (text_of below ++ (0x29 ∷ following rest (text_of rest)))) in
      omega arith

  pub derivation-length : {b : ℕ} {w e : List ℕ} → Derivation (cfg_in s p) b w e
      → length (derivation_text (cfg_in s p) (text_in names) w e) ≡ size_sum (size_in names p) e + 3 * length w
  derivation-length {w = w} {e} d =
      let text = ap length (text-of-tree (text_in names) d) in
      let sum = forest-length d.parse.0 in
      let row = ap (size_sum (size_in names p)) d.coded in
      let bytes = ap length d.parse.1 in
      omega arith
