-- What `words` answers and leaves over the list of the packed grammar's derivations, by the tests of `write_offered`. Assumes nothing.
use Prim.Native.Nat.{ℕ, ◌+◌, ◌*◌, ◌≤◌, ◌<◌}
use native.Mathlib.Omega.{arith}
use mathlib.Core.Bool.{Bool, true, false, not}
use mathlib.Core.List.{List, [], ◌++◌}
use mathlib.Core.Path.{◌≡◌, sym, ap, ap₂, subst, ◌∙◌}
use lib.ListN.{length, drop, take-append-drop}
use borrow.Author.Tests.{not-true, not-false, lt-ltb, le-ltb}
use Rattle.sizes.specs.Sizes.{max_nodes, max_input, output_size}
use Rattle.cfg.specs.Tree.{Forest, end, node, nodes}
use Rattle.cfg.specs.Derivation.{Derivation, limit}
use Rattle.cfg.specs.Listing.{L}
use Rattle.theory_listing.proofs.Exact.{derivation-length}
use Rattle.theory_words.specs.Words.{forest_text, derivation_text}
use Rattle.theory_words.proofs.Derived.{text-of-tree}
use Rattle.theory_embedding.proofs.Same.{fits-same}
use Rattle.results.specs.Answer.{refused, answered, decide}
use Rattle.results.specs.Check.{listed}
use Rattle.packed.specs.Packed.{cfg_in}
use Rattle.check_walk.proofs.Whole.{listed-derivation}
use Rattle.print_number.specs.Put.{Put}
use Rattle.words_text.specs.Names.{names_size, text_in}
use Rattle.words_length.specs.Length.{size_in, size_sum}
use Rattle.words_length.proofs.Exact as Exact
use Rattle.words_write.specs.declared.Cursor.{Cursor}
use Rattle.words_write.specs.Cursor.{rule_at, NodeAt, node_text, Writable, NodeWritten}
use Rattle.words_write.proofs.Forests.{root-first, NodeFirst, node-first, no_place}
use Rattle.words.specs.Answer.{writing_of, words_filled}

-- ---- a text at the front of a buffer

module _ (x : List ℕ) (end : ℕ) (buffer buffer' : List ℕ) (put : Put x 0 end buffer buffer') where
  put-size : end ≡ length x
  put-size = omega (arith, put.grown)

  put_front : buffer' ≡ x ++ drop (length x) buffer
  put_front =
      sym (take-append-drop end buffer') ∙ ap₂ (λ (a b : List ℕ). a ++ b) put.front put.back
      ∙ ap (λ (n : ℕ). x ++ drop n buffer) put-size

-- ---- the root

-- the node at the front of a derivation: what is below it, and that its text is that of the derivation
record Root (names p : List ℕ) (s : ℕ) (w e : List ℕ) : Type 0 where
  pub below : Forest
  pub found : NodeAt p w e 0 0 below
  pub few : nodes below < max_nodes
  pub text : derivation_text (cfg_in s p) (text_in names) w e ≡ node_text names (rule_at e 0) below

module _ (names p : List ℕ) (s : ℕ) (w e : List ℕ) (d : Derivation (cfg_in s p) limit w e) where
  first : NodeFirst p w e [] 0 0 d.tree
  unfolding cfg_in
  first = node-first (root-first (fits-same (cfg_in s p) (cfg_in 0 p) (λ r ρ here. here) d.parse.0) d.parse.1 d.coded)

  tree : d.tree ≡ node (rule_at e 0) first.below end
  tree = first.is ∙ ap (node (rule_at e 0) first.below) (no_place first.after)

  root : Root names p s w e
  unfolding nodes
  root = record {
    below = first.below;
    found = first.here;
    few = omega (arith, ap nodes tree, d.small);
    text = text-of-tree (text_in names) d ∙ ap (forest_text (text_in names)) tree;
  }

-- where the writer begins
abbrev start : Cursor
start = record { node = 0; byte = 0; at = 0 }

-- ---- the answers over a list of derivations, by the tests of `write_offered`

module _ (names p w e : List ℕ) (s : ℕ) (b : Bool) (told : b ≡ listed e (L (cfg_in s p) w)) where
  -- the text of what is offered
  abbrev text : List ℕ
  text = derivation_text (cfg_in s p) (text_in names) w e

  pub words-no : not b ≡ true → (chart buffer : List ℕ)
      → writing_of (refused 12) chart buffer ≡ words_filled (L (cfg_in s p) w) e text chart buffer
  unfolding decide
  words-no h chart buffer = rw (← told, not-true b h)

  module _ (yes : not b ≡ false) where
    is : Derivation (cfg_in s p) limit w e
    is = listed-derivation (cfg_in s p) w e (sym told ∙ not-false b yes)

    pub offered-short : length e ≤ output_size
    offered-short = derivation-length (cfg_in s p) limit w e is

    module _ (n : ℕ) (measured : n ≡ size_sum (size_in names p) e + 3 * length w) where
      size : n ≡ length text
      size = measured ∙ sym (Exact.derivation-length names p s is)

      pub words_long : (buffer : List ℕ) → length buffer < n → (chart : List ℕ)
          → writing_of (refused 18) chart buffer ≡ words_filled (L (cfg_in s p) w) e text chart buffer
      unfolding decide
      words_long buffer h chart = rw (← told, not-false b yes, lt-ltb (length buffer) (length text) (omega (arith, size)))

      pub root-writable : (m : ℕ) → n ≤ m → length names ≡ names_size → length w ≤ max_input → Writable names p w e max_nodes start m
      root-writable m fits full small =
          let r = root names p s w e is in
          record {
            full = full;
            short = offered-short;
            small = small;
            below = r.below;
            found = r.found;
            few = r.few;
            room = omega (arith, size, ap length r.text);
          }

      pub words-yes : (buffer : List ℕ) → n ≤ length buffer → (next : Cursor) (buffer' : List ℕ)
          → NodeWritten names p w e start next buffer buffer' → (chart : List ℕ)
          → writing_of (answered next.at) chart buffer' ≡ words_filled (L (cfg_in s p) w) e text chart buffer
      unfolding decide
      words-yes buffer fits next buffer' W chart =
          let r = root names p s w e is in
          let put = subst (λ (x : List ℕ). Put x 0 next.at buffer buffer') (sym r.text) (W.written r.below r.found).put in
          rw (← told, not-false b yes, le-ltb (length buffer) (length text) (omega (arith, size)))
          (ap₂ (λ (n : ℕ) (x : List ℕ). writing_of (answered n) chart x) (put-size text next.at buffer buffer' put)
          (put_front text next.at buffer buffer' put))
