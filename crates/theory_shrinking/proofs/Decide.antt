-- Two things about a row can be decided: whether it has a node of a given nonterminal over a given number of bytes, and whether it has
-- superfluous recursion. Assumes nothing.
use Prim.Native.Nat.{ℕ}
use native.Mathlib.Decide.{ℕ_discrete, map_dec}
use mathlib.Core.Logic.Dec
use mathlib.Core.Path.{◌≡◌, refl, sym, ◌∙◌, subst}
use mathlib.Core.Option.{Option, none, some, some-ne-none}
use lib.ListN.{length}
use Rattle.cfg.specs.Grammar.{Cfg, Rule, rule, Of}
use Rattle.cfg.proofs.Of.{of-same-left}
use Rattle.cfg.specs.Tree.{Forest, end, leaf, node, yield}
use Rattle.cfg.specs.Derivation.{Has, has_here, has_below, has_beside, has_after}
use Rattle.cfg.specs.Derivation.{Superfluous, super_here, super_below, super_beside, super_after}

-- a known rule is a rule of its left side alone
pub of_left : (G : Cfg) {r k : ℕ} (ρ : Rule) → rule G r ≡ some ρ → Of G r k → ρ.left ≡ k
of_left G ρ e o = of-same-left (record { the = ρ; here = e; left = refl }) o

-- a rule of j is a rule of k where j is k
abbrev pub of-same : (G : Cfg) {r j k : ℕ} → j ≡ k → Of G r j → Of G r k
of-same G e o = record { the = o.the; here = o.here; left = o.left ∙ e }

pub of-dec : (G : Cfg) (r k : ℕ) → Dec (Of G r k)
of-dec G r k = go (rule G r) refl
  where
    go : (o : Option Rule) → rule G r ≡ o → Dec (Of G r k)
    go none e = no λ p. some-ne-none p.the (sym p.here ∙ e)
    go (some ρ) e = elim (ℕ_discrete ρ.left k) [
      | yes l ↦ yes (record { the = ρ; here = e; left = l })
      | no n ↦ no (λ p. n (of_left G ρ e p))
    ]

-- D is one of three things that can be decided: for a row, of its first node itself, of the row below that, and of the rest
pub dec-three : {A B C D : Type 0} → (A → D) → (B → D) → (C → D) → (¬ A → ¬ B → ¬ C → ¬ D) → Dec A → Dec B → Dec C → Dec D
dec-three f g h n (yes a) b c = yes (f a)
dec-three f g h n (no a) (yes b) c = yes (g b)
dec-three f g h n (no a) (no b) (yes c) = yes (h c)
dec-three f g h n (no a) (no b) (no c) = no (n a b c)

pub has-leaf-cases : (G : Cfg) {k n m : ℕ} {rest : Forest} → Has G k n (leaf m rest) → Has G k n rest
has-leaf-cases G (has_after h) = h

pub has-dec : (G : Cfg) (k n : ℕ) (t : Forest) → Dec (Has G k n t)
has-dec G k n end = no λ h. elim h [ ]
has-dec G k n (leaf m rest) = map_dec has_after (has-leaf-cases G) (has-dec G k n rest)
has-dec G k n (node r below rest) =
    dec-three (λ p. has_here p.0 p.1) has_below has_beside none
    (Dec.and (of-dec G r k) (ℕ_discrete (length (yield below)) n)) (has-dec G k n below) (has-dec G k n rest)
  where
    none : ¬ (Of G r k × (length (yield below) ≡ n)) → ¬ Has G k n below → ¬ Has G k n rest → ¬ Has G k n (node r below rest)
    none a b c (has_here o e) = a (o, e)
    none a b c (has_below h) = b h
    none a b c (has_beside h) = c h

-- a node of rule r above this row would have superfluous recursion
abbrev pub Over : (G : Cfg) (r : ℕ) (below : Forest) → Type 0
Over G r below = (k : ℕ) × Of G r k × Has G k (length (yield below)) below

pub over-dec : (G : Cfg) (r : ℕ) (below : Forest) → Dec (Over G r below)
over-dec G r below = go (rule G r) refl
  where
    go : (o : Option Rule) → rule G r ≡ o → Dec (Over G r below)
    go none e = no λ p. some-ne-none p.1.the (sym p.1.here ∙ e)
    go (some ρ) e = map_dec
        (λ h. (ρ.left, record { the = ρ; here = e; left = refl }, h))
        (λ p. subst (λ (j : ℕ). Has G j (length (yield below)) below) (sym (of_left G ρ e p.1)) p.2)
        (has-dec G ρ.left (length (yield below)) below)

pub super-leaf-cases : (G : Cfg) {m : ℕ} {rest : Forest} → Superfluous G (leaf m rest) → Superfluous G rest
super-leaf-cases G (super_after h) = h

pub superfluous-dec : (G : Cfg) (t : Forest) → Dec (Superfluous G t)
superfluous-dec G end = no λ h. elim h [ ]
superfluous-dec G (leaf m rest) = map_dec super_after (super-leaf-cases G) (superfluous-dec G rest)
superfluous-dec G (node r below rest) =
    dec-three (λ p. super_here p.1 p.2) super_below super_beside none
    (over-dec G r below) (superfluous-dec G below) (superfluous-dec G rest)
  where
    none : ¬ Over G r below → ¬ Superfluous G below → ¬ Superfluous G rest → ¬ Superfluous G (node r below rest)
    none a b c (super_here {k} o h) = a (k, o, h)
    none a b c (super_below h) = b h
    none a b c (super_beside h) = c h
