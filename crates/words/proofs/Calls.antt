-- What `words` answers and leaves, from the checks and from the answer over the packed grammar. Assumes nothing.
use Prim.Native.Nat.{ℕ}
use Rattle.std.proofs.Common.{Ok, Err}
use mathlib.Core.Bool.{true}
use mathlib.Core.List.{List, [], ◌∷◌}
use mathlib.Core.Path.{◌≡◌, refl, sym, ap, ap₂, subst, ◌∙◌}
use lib.ListN.{length, get_or}
use Rattle.laws.proofs.Bools.{by-test}
use Rattle.cfg.specs.Grammar.{Cfg, nonterminal, rule}
use Rattle.cfg.specs.Tree.{Fits}
use Rattle.cfg.specs.Derivation.{Derivation, limit}
use Rattle.cfg.specs.Decode.{forest_in}
use Rattle.cfg.specs.Listing.{L}
use Rattle.cfg.proofs.Decode.{forest-decoded}
use Rattle.chart.specs.Column.{filled}
use Rattle.theory_words.specs.Name.{rule_text}
use Rattle.theory_words.specs.Words.{forest_text, derivation_text}
use Rattle.theory_words.proofs.Derived.{text-of-tree}
use Rattle.theory_embedding.proofs.Same.{same-rules-in, fits-same}
use Rattle.grammar.specs.declared.Grammar.{Grammar}
use Rattle.grammar.specs.Zero.{no_rule}
use Rattle.grammar.specs.View.{dated, grammar_of}
use Rattle.answers.specs.declared.Refusal.{Refusal}
use Rattle.answers.specs.Number.{number_of}
use Rattle.results.specs.Answer.{Answer, refused, decide}
use Rattle.results.specs.Check.{listed}
use Rattle.results.specs.Measure.{unlisted}
use Rattle.results.specs.Words.{texts_of, words_in, words_of}
use Rattle.packed.specs.Packed.{cfg_in}
use Rattle.fill_input.specs.Judging.{Judging}
use Rattle.fill_input.proofs.Deciding.{input-refused, input-passed}
use Rattle.fill_input.proofs.Packing.{list-packed}
use Rattle.check_walk.proofs.Whole.{listed-derivation}
use Rattle.words_text.specs.Names.{names_size, name_in, text_in}
use Rattle.words.specs.Answer.{writing_of, words_filled}

-- the answer depends on the text of what is offered only if it is a derivation
filled-same : (l : List (List ℕ)) (e x y chart buffer : List ℕ) → (listed e l ≡ true → x ≡ y)
    → words_filled l e x chart buffer ≡ words_filled l e y chart buffer
unfolding decide
filled-same l e x y chart buffer same =
    by-test (listed e l) (λ t. ap (λ (z : List ℕ). words_filled l e z chart buffer) (same t)) (λ f. rw f)

-- grammars with the same start symbol and rules give a derivation the same text
text_same : (G H : Cfg) → ((r : ℕ) → rule G r ≡ rule H r) → G.start ≡ H.start → (names : ℕ → List ℕ) (w e : List ℕ)
    → Derivation G limit w e → derivation_text G names w e ≡ derivation_text H names w e
unfolding derivation_text
text_same G H same begins names w e d =
    let fit = subst (λ (k : ℕ). Fits H (nonterminal k ∷ []) d.tree) begins (fits-same G H (same-rules-in G H same) d.parse.0) in
    text-of-tree names d
    ∙ ap (forest_text names)
    (sym (ap₂ (forest_in H (nonterminal H.start ∷ [])) (sym d.parse.1) (sym d.coded) ∙ forest-decoded H fit))

module _ (g : Grammar) (y : ℕ) (w chart e buffer : List ℕ) where
  pub words-refused : {r : Refusal} → Judging g (length w) (length chart) (Err r)
      → writing_of (refused (number_of r)) chart buffer ≡ words_of (dated g y) w e chart buffer
  unfolding words_of
  words-refused judging = sym (input-refused g y w chart _ _ judging)

  module _ {u : Unit {0}} (judging : Judging g (length w) (length chart) (Ok u)) (p chart' : List ℕ) (s : ℕ) (start : s ≡ g.start)
      (filling : (chart' ≡ filled (grammar_of (dated g y)) w chart)
      × ((r : ℕ) → rule (cfg_in g.start p) r ≡ rule (grammar_of (dated g y)) r))
      (names : List ℕ) (row : (length names ≡ names_size) × ((r : ℕ) → name_in names r ≡ (get_or g.rules r no_rule).name)) where
    -- the grammar by which the input is read
    abbrev G : Cfg
    G = grammar_of (dated g y)

    -- the texts of the rules
    texts : text_in names ≡ texts_of g
    texts = λ i r. rule_text (row.1 r i) r

    text : listed e (L G w) ≡ true → derivation_text (cfg_in g.start p) (text_in names) w e ≡ derivation_text G (texts_of g) w e
    unfolding cfg_in
    text t =
        text_same (cfg_in g.start p) G filling.1 refl (text_in names) w e
        (listed-derivation (cfg_in g.start p) w e (ap (listed e) (list-packed g y p w filling.1 g.start refl) ∙ t))
        ∙ ap (λ (f : ℕ → List ℕ). derivation_text G f w e) texts

    over : words_filled (L (cfg_in s p) w) e (derivation_text (cfg_in s p) (text_in names) w e) chart' buffer
        ≡ words_in G (texts_of g) w e chart buffer
    unfolding words_in unlisted
    over =
        rw (start, filling.0, list-packed g y p w filling.1 g.start refl)
        (filled-same (L G w) e _ _ (filled G w chart) buffer text)

    pub words-answered : (a : Answer ℕ) (buffer' : List ℕ)
        → ((c : List ℕ) → writing_of a c buffer'
        ≡ words_filled (L (cfg_in s p) w) e (derivation_text (cfg_in s p) (text_in names) w e) c buffer)
        → writing_of a chart' buffer' ≡ words_of (dated g y) w e chart buffer
    unfolding words_of
    words-answered a buffer' d = d chart' ∙ over ∙ sym (input-passed g y w chart _ _ judging)
