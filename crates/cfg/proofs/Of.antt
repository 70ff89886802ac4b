-- A number has one rule, and that is a rule of one nonterminal. Assumes nothing.
use Prim.Native.Nat.{ℕ}
use mathlib.Core.Option.{some-injective}
use mathlib.Core.Path.{◌≡◌, refl, sym, ap, ◌∙◌}
use Rattle.cfg.specs.Grammar.{Cfg, Of, rule}

pub of-same-rule : {G : Cfg} {r s j k : ℕ} → r ≡ s → (o : Of G r j) (p : Of G s k) → o.the ≡ p.the
of-same-rule {G} e o p = some-injective o.the p.the (sym o.here ∙ ap (rule G) e ∙ p.here)

pub of-same-left : {G : Cfg} {r j k : ℕ} → Of G r j → Of G r k → j ≡ k
of-same-left o p = sym o.left ∙ ap (λ x. x.left) (of-same-rule refl o p) ∙ p.left
