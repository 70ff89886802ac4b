-- The texts of derivations, for every grammar that check 8 lets through. Assumes nothing.
use Prim.Native.Nat.{ℕ, ◌≤◌}
use native.Mathlib.Omega.{arith}
use mathlib.Core.Bool.{true}
use mathlib.Core.List.{List, [], ◌∷◌}
use mathlib.Core.Logic.{◌↔◌}
use mathlib.Core.Path.{◌≡◌}
use lib.ListN.{length, get_or, take, length-map, length-take}
use Rattle.sizes.specs.Sizes.{max_input}
use Rattle.cfg.specs.Grammar.{nonterminal}
use Rattle.cfg.specs.Tree.{Fits}
use Rattle.cfg.specs.Derivation.{Derivation, limit}
use Rattle.theory_words.proofs.Derived as Derived
use Rattle.theory_words.proofs.Names.{names-telling, text-short}
use Rattle.theory_words.proofs.Size as Size
use Rattle.theory_embedding.proofs.Same.{fits-same}
use Rattle.grammar.specs.declared.Grammar.{Grammar}
use Rattle.grammar.specs.Valid.{valid_grammar}
use Rattle.grammar.specs.Zero.{no_rule}
use Rattle.grammar.specs.View.{rule_of, whole_of, rule_in_year, dated, grammar_of}
use Rattle.results.specs.Words.{texts_of, words_text}
use Rattle.grammar.proofs.Names.{distinct-names}
use Rattle.grammar.proofs.Years.{rule-whole}

module _ (g : Grammar) (valid : valid_grammar g ≡ true) where
  -- the name of the rule of a number
  abbrev name : ℕ → List ℕ
  name r = (get_or g.rules r no_rule).name

  -- a grammar has no more numbers than records that are used
  whole-few : length (whole_of g).rules ≤ g.count
  whole-few = omega (arith, length-map (take g.count g.rules) rule_of, length-take g.count g.rules)

  -- the tree of a derivation of any year fits the whole grammar
  fits_whole : (y : ℕ) (w e : List ℕ) (d : Derivation (grammar_of (dated g y)) limit w e)
      → Fits (whole_of g) (nonterminal g.start ∷ []) d.tree
  fits_whole y w e d = fits-same (grammar_of (dated g y)) (whole_of g) (rule-whole g y) d.parse.0

  pub words_same : (y y' : ℕ) (w w' e e' : List ℕ)
      → Derivation (grammar_of (dated g y)) limit w e → Derivation (grammar_of (dated g y')) limit w' e'
      → (words_text (dated g y) w e ≡ words_text (dated g y') w' e') ↔ ((w ≡ w') × (e ≡ e'))
  words_same y y' w w' e e' d d' =
      Derived.words-same-within (whole_of g) g.count (texts_of g) whole-few
      (names-telling g.count name (distinct-names g valid)) d d' (fits_whole y w e d) (fits_whole y' w' e' d')

  pub words_size : (y : ℕ) (w e : List ℕ) → length w ≤ max_input → Derivation (grammar_of (dated g y)) limit w e
      → length (words_text (dated g y) w e) ≤ 5888
  words_size y w e short d =
      Size.words_size g.count (texts_of g) (text-short g.count name (distinct-names g valid)) {G = grammar_of (dated g y)}
      (omega (arith, length-map (take g.count g.rules) (rule_in_year y), length-take g.count g.rules)) short d
