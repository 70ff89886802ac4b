-- How long the text of a forest is: 11 bytes for each node and 4 for each leaf are enough, so 5,888 for a derivation. Assumes nothing.
use Prim.Native.Nat.{ℕ, ◌+◌, ◌*◌, ◌≤◌, ◌<◌}
use native.Mathlib.Omega.{arith}
use mathlib.Core.List.{List}
use mathlib.Core.Path.{◌≡◌, ap}
use lib.ListN.{length, length-append}
use Rattle.sizes.specs.Sizes.{max_input}
use Rattle.cfg.specs.Grammar.{Cfg}
use Rattle.cfg.specs.Tree.{Forest, end, leaf, node, yield, nodes}
use Rattle.cfg.specs.Derivation.{Derivation, limit}
use Rattle.theory_words.specs.Name.{name_size}
use Rattle.theory_words.specs.Words.{leaf_text, following, forest_text, derivation_text}
use Rattle.theory_words.proofs.Rules.{RulesBelow, below_end, below-leaf, below-node, fits_below}
use Rattle.theory_words.proofs.Derived.{text-of-tree}

-- a name, two parentheses and a comma for each node; a sign, two digits and a comma for each leaf
abbrev room : Forest → ℕ
room t = 11 * nodes t + 4 * length (yield t)

module _ (n : ℕ) (names : ℕ → List ℕ) (short : (r : ℕ) → r < n → length (names r) ≤ name_size) where
  -- a text is no longer than with the comma before it
  comma-longer : (t : Forest) → length (forest_text names t) ≤ length (following t (forest_text names t))
  unfolding following forest_text
  comma-longer end = omega arith
  comma-longer (leaf m rest) = omega arith
  comma-longer (node r below rest) = omega arith

  -- the lengths of the parts of a text
  leaf-length : (m : ℕ) (rest : Forest)
      → length (forest_text names (leaf m rest)) ≡ length (following rest (forest_text names rest)) + 3
  unfolding forest_text leaf_text
  leaf-length m rest = omega arith

  node-length : (r : ℕ) (below rest : Forest) → length (forest_text names (node r below rest))
      ≡ length (names r) + (length (forest_text names below) + length (following rest (forest_text names rest)) + 2)
  unfolding forest_text
  node-length r below rest = simp length-append (omega arith)

  following-size : {t : Forest} → RulesBelow n t → length (following t (forest_text names t)) ≤ room t
  unfolding following yield nodes
  following-size below_end = omega arith
  following-size (below-leaf {m} {rest} f) = omega (arith, following-size f, leaf-length m rest)
  following-size (below-node {r} {below} {rest} i f g) =
      let name = short r i in
      let b = following-size f in
      let c = following-size g in
      let d = comma-longer below in
      let l = length-append (yield below) (yield rest) in
      omega (arith, node-length r below rest)

  pub text-size : {t : Forest} → RulesBelow n t → length (forest_text names t) ≤ room t
  text-size {t} f = omega (arith, comma-longer t, following-size f)

  -- the text of a derivation of at most 512 nodes over at most 64 bytes
  pub words_size : {G : Cfg} {w e : List ℕ} → length G.rules ≤ n → length w ≤ max_input → Derivation G limit w e
      → length (derivation_text G names w e) ≤ 5888
  words_size few small d =
      let size = text-size (fits_below n few d.parse.0) in
      let covers = ap length d.parse.1 in
      let budget = d.small in
      rw (text-of-tree names d) (omega arith)
