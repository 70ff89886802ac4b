-- Trees and derivations of a grammar are, renumbered, those of one that it is inside. Assumes nothing.
use Prim.Native.Nat.{ℕ, ◌≤◌}
use mathlib.Core.List.{List, [], ◌∷◌}
use mathlib.Core.Path.{◌≡◌, sym, ap, subst, ◌∙◌}
use Rattle.cfg.specs.Grammar.{Cfg, nonterminal}
use Rattle.cfg.specs.Tree.{Forest, Parse, Fits, HasTree}
use Rattle.cfg.specs.Derivation.{Derivation}
use Rattle.theory_embedding.specs.Embedding.{Embeds, renumber, recode}
use Rattle.theory_embedding.proofs.Renumber.{renumber-yield, renumber-nodes, renumber-code, recode-same}
use Rattle.theory_embedding.proofs.Trees.{fits-into, superfluous-back}

module _ (f : ℕ → ℕ) (G G' : Cfg) (inside : Embeds f G G') where
  pub parse-into : (w : List ℕ) (t : Forest) → Parse G G.start w t → Parse G' G'.start w (renumber f t)
  parse-into w t p = (
    subst (λ (k : ℕ). Fits G' (nonterminal k ∷ []) (renumber f t)) inside.start (fits-into f G G' inside.rules p.0),
    renumber-yield f t ∙ p.1,
  )

  pub tree-into : (w : List ℕ) → HasTree G w → HasTree G' w
  tree-into w h = (renumber f h.0, parse-into w h.0 h.1)

  pub derivation-into : (b : ℕ) (w e : List ℕ) → Derivation G b w e → Derivation G' b w (recode f e)
  derivation-into b w e d = record {
    tree = renumber f d.tree;
    parse = parse-into w d.tree d.parse;
    plain = λ s. d.plain (superfluous-back f G G' inside.rules d.parse.0 s);
    small = subst (λ (n : ℕ). n ≤ b) (sym (renumber-nodes f d.tree)) d.small;
    coded = renumber-code f d.tree ∙ ap (recode f) d.coded;
  }

-- under the same numbers
pub derivation-same : (G G' : Cfg) → Embeds (λ r. r) G G' → (b : ℕ) (w e : List ℕ) → Derivation G b w e → Derivation G' b w e
derivation-same G G' inside b w e d = subst (Derivation G' b w) (recode-same e) (derivation-into (λ r. r) G G' inside b w e d)
