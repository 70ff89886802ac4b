-- The trees that use only rules of a grammar inside another one are those of the inner grammar. Assumes nothing.
use Prim.Native.Nat.{ℕ}
use mathlib.Core.Bool.{true, false≢true}
use mathlib.Core.List.{List, [], ◌++◌, append-nil, append_assoc}
use mathlib.Core.Option.{Option, none, some, some-injective}
use mathlib.Core.Path.{◌≡◌, refl, sym, ap, subst, ◌∙◌}
use Rattle.laws.proofs.Bools.{and_parts, and_both}
use Rattle.cfg.specs.Grammar.{Cfg, Rule, Symbol, rule, Of}
use Rattle.cfg.specs.Tree.{Forest, code, Fits, fits_end, fits_leaf, fits_node}
use Rattle.theory_embedding.specs.Embedding.{RulesIn, is_rule, uses_only}

rule-there : (o : Option Rule) → is_rule o ≡ true → (ρ : Rule) × (o ≡ some ρ)
unfolding is_rule
rule-there none e = absurd (false≢true e)
rule-there (some ρ) e = (ρ, refl)

module _ (G G' : Cfg) (inside : RulesIn (λ r. r) G G') where
  -- a rule of k in G' is one in G, if G has a rule of that number
  unfoldable of-own : (r k : ℕ) → is_rule (rule G r) ≡ true → Of G' r k → Of G r k
  of-own r k e o =
      let (ρ, here) = rule-there (rule G r) e in
      let same : ρ ≡ o.the = some-injective ρ o.the (sym (inside r ρ here) ∙ o.here) in
      record { the = o.the; here = here ∙ ap some same; left = o.left }

  row-own : {places : List Symbol} {t : Forest} (x : List ℕ) → Fits G' places t → uses_only G (code t ++ x) ≡ true
      → Fits G places t × (uses_only G x ≡ true)
  unfolding code uses_only of-own
  row-own x fits_end e = (fits_end, e)
  row-own x (fits_leaf h q) e = let (q', e') = row-own x q e in (fits_leaf h q', e')
  row-own x (fits_node {k = k} {r} {below = below} {rest} o p q) e =
      let (here, later) = and_parts (is_rule (rule G r)) (uses_only G ((code below ++ code rest) ++ x)) e in
      let (p', e') = row-own (code rest ++ x) p (ap (uses_only G) (sym (append_assoc (code below) (code rest) x)) ∙ later) in
      let (q', e'') = row-own x q e' in
      (fits_node (of-own r k here o) p' q', e'')

  pub fits-own : {places : List Symbol} (t : Forest) → Fits G' places t → uses_only G (code t) ≡ true → Fits G places t
  fits-own t p e = (row-own [] p (ap (uses_only G) (append-nil (code t)) ∙ e)).0

-- a tree of G uses only rules of G; x is what follows its code
uses-row : (G : Cfg) {places : List Symbol} {t : Forest} (x : List ℕ) → Fits G places t → uses_only G x ≡ true
    → uses_only G (code t ++ x) ≡ true
unfolding code uses_only is_rule
uses-row G x fits_end e = e
uses-row G x (fits_leaf _ q) e = uses-row G x q e
uses-row G x (fits_node {r = r} {below = below} {rest} o p q) e =
    and_both (is_rule (rule G r)) (uses_only G ((code below ++ code rest) ++ x)) (ap is_rule o.here)
    (ap (uses_only G) (append_assoc (code below) (code rest) x) ∙ uses-row G (code rest ++ x) p (uses-row G x q e))

pub fits-uses : (G : Cfg) {places : List Symbol} (t : Forest) → Fits G places t → uses_only G (code t) ≡ true
unfolding uses_only
fits-uses G t p = ap (uses_only G) (sym (append-nil (code t))) ∙ uses-row G [] p refl
