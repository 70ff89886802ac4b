-- Codes in an output: one after the other, and after the numbers of a node. Assumes nothing.
use Prim.Native.Nat.{ℕ, ◌+◌, ◌*◌, ◌-◌, ◌≤◌, ◌<◌}
use mathlib.Core.List.{List, [], ◌∷◌, ◌++◌}
use mathlib.Core.Logic.{dite}
use mathlib.Core.Path.{◌≡◌, refl, sym, ap, ◌∙◌}
use native.Mathlib.Decide.{ℕ_discrete, dec_lt}
use native.Mathlib.Omega.{arith}
use lib.ListN.{length, get_or, length-append, get_or-append}
use lib.Seq.{get_or-append-add}
use Rattle.cfg.specs.Tree.{Forest}
use Rattle.theory_enumeration.specs.Order.{Min}
use Rattle.tree_node.specs.Numbers.{NodePut}
use Rattle.tree_first.specs.Descend.{FirstAt, Kept}

-- ---- no nodes

pub first-none : {P : Forest → Type 0} {out : List ℕ} {at : ℕ} → Min P [] → FirstAt P out at 0
first-none m = record { code = []; first = m; size = refl; here = λ y l. absurd (omega arith) }

pub kept-none : {budget at : ℕ} {out : List ℕ} → Kept budget at 0 out out
kept-none = record { long = refl; few = omega arith; before = λ x l. refl; after = λ x l. refl }

-- the same nodes in another set of forests
pub first_same : {P Q : Forest → Type 0} {out : List ℕ} {at n : ℕ} → ((e : List ℕ) → Min P e → Min Q e) → FirstAt P out at n
    → FirstAt Q out at n
first_same f F = record { code = F.code; first = f F.code F.first; size = F.size; here = F.here }

-- ---- codes in an output

-- e has m nodes, f comes after it, and the numbers before f are kept
pub stands-join : (out₀ out : List ℕ) (at m : ℕ) (e f : List ℕ) → length e ≡ 2 * m
    → ((y : ℕ) → y < length e → get_or out₀ (2 * at + y) 0 ≡ get_or e y 0)
    → ((y : ℕ) → y < length f → get_or out (2 * (at + m) + y) 0 ≡ get_or f y 0)
    → ((x : ℕ) → x < 2 * (at + m) → get_or out x 0 ≡ get_or out₀ x 0)
    → (y : ℕ) → y < length (e ++ f) → get_or out (2 * at + y) 0 ≡ get_or (e ++ f) y 0
stands-join out₀ out at m e f l S T K y h = dite (dec_lt y (2 * m))
    (λ u. K (2 * at + y) (omega arith) ∙ S y (omega arith) ∙ sym (get_or-append e f 0 y (omega arith)))
    (λ u.
    let d : 2 * at + y ≡ 2 * (at + m) + (y - 2 * m) = omega arith in
    let g : length e + (y - 2 * m) ≡ y = omega arith in
    ap (λ (x : ℕ). get_or out x 0) d ∙ T (y - 2 * m) (omega (arith, length-append e f)) ∙ sym (get_or-append-add e f (y - 2 * m) 0)
    ∙ ap (λ (x : ℕ). get_or (e ++ f) x 0) g)

-- the first code of a set, and the numbers of a node
pub first-stands : {P : Forest → Type 0} {out : List ℕ} {at n : ℕ} (F : FirstAt P out at n) → (y : ℕ) → y < length F.code
    → get_or out (2 * at + y) 0 ≡ get_or F.code y 0
first-stands F y h = F.here y (omega (arith, F.size))

pub put-stands : {c r at : ℕ} {out₀ out : List ℕ} → NodePut c r at out₀ out → (y : ℕ) → y < 2
    → get_or out (2 * at + y) 0 ≡ get_or (c ∷ r ∷ []) y 0
put-stands {c} {r} {at} {out = out} P y h = dite (ℕ_discrete y 0)
    (λ e.
    let f : 2 * at + y ≡ 2 * at = omega arith in
    ap (λ (x : ℕ). get_or out x 0) f ∙ P.cover ∙ ap (λ (x : ℕ). get_or (c ∷ r ∷ []) x 0) (sym e))
    (λ n.
    let z : ¬ (y ≡ 0) = n in
    let e : y ≡ 1 = omega arith in
    ap (λ (x : ℕ). get_or out (2 * at + x) 0) e ∙ P.rule ∙ ap (λ (x : ℕ). get_or (c ∷ r ∷ []) x 0) (sym e))

-- ---- m nodes and n nodes after them

module _ {at m n : ℕ} {out₁ out₂ : List ℕ} where
  pub kept-join : {budget share : ℕ} {out₀ : List ℕ} → share ≤ budget → Kept share at m out₀ out₁ → Kept (budget - m) (at + m) n out₁ out₂
      → Kept budget at (m + n) out₀ out₂
  kept-join l K L = record {
    long = L.long ∙ K.long;
    few = omega (arith, K.few, L.few);
    before = λ x h. L.before x (omega arith) ∙ K.before x h;
    after = λ x h. L.after x (omega arith) ∙ K.after x (omega arith);
  }

  module _ {budget : ℕ} {X Y : Forest → Type 0} (F : FirstAt X out₁ at m) (G : FirstAt Y out₂ (at + m) n)
      (K : Kept budget (at + m) n out₁ out₂) where
    pub first-join : {Z : Forest → Type 0} → ((e f : List ℕ) → Min X e → length e ≡ 2 * m → Min Y f → Min Z (e ++ f))
        → FirstAt Z out₂ at (m + n)
    first-join J = record {
      code = F.code ++ G.code;
      first = J F.code G.code F.first F.size G.first;
      size = omega (arith, length-append F.code G.code, F.size, G.size);
      here = λ y l.
          stands-join out₁ out₂ at m F.code G.code F.size (first-stands F) (first-stands G) K.before y
          (omega (arith, length-append F.code G.code, F.size, G.size));
    }

-- ---- a node and n nodes below it

module _ {at n c r : ℕ} {out₀ out₁ out₂ : List ℕ} (P : NodePut c r at out₀ out₁) where
  pub kept-open : {budget : ℕ} → 0 < budget → Kept (budget - 1) (at + 1) n out₁ out₂ → Kept budget at (1 + n) out₀ out₂
  kept-open l K = record {
    long = K.long ∙ P.long;
    few = omega (arith, K.few);
    before = λ x h. K.before x (omega arith) ∙ P.other x (λ e. omega arith) (λ e. omega arith);
    after = λ x h. K.after x (omega arith) ∙ P.other x (λ e. omega arith) (λ e. omega arith);
  }

  module _ {budget : ℕ} {X : Forest → Type 0} (F : FirstAt X out₂ (at + 1) n) (K : Kept budget (at + 1) n out₁ out₂) where
    pub first-open : {Z : Forest → Type 0} → ((e : List ℕ) → Min X e → Min Z (c ∷ r ∷ e)) → FirstAt Z out₂ at (1 + n)
    first-open J = record {
      code = c ∷ r ∷ F.code;
      first = J F.code F.first;
      size = omega (arith, F.size);
      here = λ y l.
          stands-join out₁ out₂ at 1 (c ∷ r ∷ []) F.code (omega arith) (put-stands P) (first-stands F) K.before y
          (omega (arith, F.size));
    }
