-- Texts of derivations are equal exactly if the inputs and the derivations are. Assumes nothing.
use Prim.Native.Nat.{ℕ, ◌≤◌}
use mathlib.Core.List.{List, [], ◌∷◌}
use mathlib.Core.Logic.{◌↔◌}
use mathlib.Core.Path.{◌≡◌, sym, ap, ap₂, ◌∙◌}
use lib.ListN.{length}
use Rattle.cfg.specs.Grammar.{Cfg, Symbol, nonterminal}
use Rattle.cfg.specs.Tree.{Forest, yield, code, Fits}
use Rattle.cfg.specs.Derivation.{Derivation}
use Rattle.cfg.specs.Decode.{forest_in}
use Rattle.cfg.proofs.Decode.{forest-decoded, derivation-decoded}
use Rattle.theory_words.specs.Words.{forest_text, derivation_text}
use Rattle.theory_words.specs.Telling.{Telling}
use Rattle.theory_words.proofs.Rules.{fits_below}
use Rattle.theory_words.proofs.Same.{forest-same}

-- the text of a derivation is that of its tree
pub text-of-tree : {G : Cfg} {b : ℕ} {w e : List ℕ} (names : ℕ → List ℕ) (d : Derivation G b w e)
    → derivation_text G names w e ≡ forest_text names d.tree
unfolding derivation_text
text-of-tree names d = ap (forest_text names) (derivation-decoded d)

module _ (G : Cfg) (n : ℕ) (names : ℕ → List ℕ) (few : length G.rules ≤ n) (telling : Telling n names) where
  -- forests that fit the same places have equal texts exactly if they cover the same bytes and have the same code
  pub forests-same : {places : List Symbol} (t u : Forest) → Fits G places t → Fits G places u
      → (forest_text names t ≡ forest_text names u) ↔ ((yield t ≡ yield u) × (code t ≡ code u))
  forests-same {places} t u f g = (
    λ e. let same = forest-same telling (fits_below n few f) (fits_below n few g) e in
        (ap yield same, ap code same),
    λ p. ap (forest_text names) (sym (forest-decoded G f) ∙ ap₂ (forest_in G places) p.0 p.1 ∙ forest-decoded G g),
  )

  -- derivations of two grammars, as those of two years, whose trees fit one grammar
  pub words-same-within : {H K : Cfg} {b c : ℕ} {v w d e : List ℕ} (x : Derivation H b v d) (y : Derivation K c w e)
      → Fits G (nonterminal G.start ∷ []) x.tree → Fits G (nonterminal G.start ∷ []) y.tree
      → (derivation_text H names v d ≡ derivation_text K names w e) ↔ ((v ≡ w) × (d ≡ e))
  words-same-within x y f g =
      let same = forests-same x.tree y.tree f g in (
        λ t. let p = same.0 (sym (text-of-tree names x) ∙ t ∙ text-of-tree names y) in
            (sym x.parse.1 ∙ p.0 ∙ y.parse.1, sym x.coded ∙ p.1 ∙ y.coded),
        λ p. text-of-tree names x
            ∙ same.1 (x.parse.1 ∙ p.0 ∙ sym y.parse.1, x.coded ∙ p.1 ∙ sym y.coded)
            ∙ sym (text-of-tree names y),
      )

  pub words_same : {b c : ℕ} {v w d e : List ℕ} → Derivation G b v d → Derivation G c w e
      → (derivation_text G names v d ≡ derivation_text G names w e) ↔ ((v ≡ w) × (d ≡ e))
  words_same x y = words-same-within x y x.parse.0 y.parse.0
