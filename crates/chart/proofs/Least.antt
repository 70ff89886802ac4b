-- Over any chart found, the column is the least one whose cells together are closed under the rules. It has as many cells as it is asked
-- for (`column-length`), and each is a word of 32 bits (`column-lt`). Assumes nothing.
use Prim.Native.Nat.{ℕ, ◌≤◌, ◌<◌}
use mathlib.Core.Bool.{true}
use mathlib.Core.List.{List}
use mathlib.Core.Logic.{◌↔◌, dite}
use mathlib.Core.Path.{◌≡◌, sym, ap, ◌∙◌}
use native.Mathlib.Decide.{dec_lt}
use native.Mathlib.Omega.{arith}
use borrow.Author.Tests.{lt-ltb, le-ltb}
use Rattle.sets.specs.Set.{has}
use Rattle.cfg.specs.Grammar.{Cfg}
use Rattle.chart.specs.Cell.{Fit, cell}
use Rattle.chart.specs.Closed.{joint, Closed}
use Rattle.chart.proofs.Cut.{InSets, cut-mono, cuts→cut, cut→cuts}
use Rattle.chart.proofs.Derived.{Bounded}
use Rattle.chart.proofs.Cells.{in_column}
pub use Rattle.chart.proofs.Cells.{column-length, column-lt}
use Rattle.chart.proofs.Inside.{Piece, ClosedBy, column-closed-by, column-inside}

module _ (chart : List ℕ) (n : ℕ) (f : ℕ → ℕ) where
  joint-earlier : (a b : ℕ) → b < n → joint chart n f a b ≡ cell chart a b
  unfolding joint
  joint-earlier a b h = rw (lt-ltb b n h, joint)

  joint-column : (a b : ℕ) → n ≤ b → joint chart n f a b ≡ f a
  unfolding joint
  joint-column a b h = rw (le-ltb b n h, joint)

  -- the pieces that f gives
  abbrev Given : ℕ → ℕ → Type 0
  Given k a = has k (f a) ≡ true

  joint-piece : (k a b : ℕ) → (InSets (joint chart n f) k a b) ↔ Piece chart n Given k a b
  joint-piece k a b = (
    λ e. (λ h. ap (has k) (sym (joint-earlier a b h)) ∙ e, λ h. ap (has k) (sym (joint-column a b h)) ∙ e),
    λ p. dite (dec_lt b n) (λ h. ap (has k) (joint-earlier a b h) ∙ p.0 h)
        (λ h. let l : n ≤ b = omega arith in ap (has k) (joint-column a b l) ∙ p.1 l),
  )

  closed-iff : (G : Cfg) (fit : Fit) → Closed G fit chart n f ↔ ClosedBy G fit chart n Given
  closed-iff G fit = (
    λ c i r k h o d. c i r k h o
        (cut→cuts fit (joint chart n f) n h (cut-mono i n (λ a t _ q. q) (λ j a b _ _ _ q. (joint-piece j a b).1 q) (omega arith) d)),
    λ c i r k h o e. c i r k h o
        (cut-mono i n (λ a t _ q. q) (λ j a b _ _ _ q. (joint-piece j a b).0 q) (omega arith)
        (cuts→cut fit (joint chart n f) n o.the.places i h e)),
  )

module _ (G : Cfg) (fit : Fit) (chart : List ℕ) (n : ℕ) where
  pub column-closed : Bounded G → Closed G fit chart n (in_column G fit chart n)
  column-closed low = (closed-iff chart n (in_column G fit chart n) G fit).1 (column-closed-by G fit chart n low)

  pub column-least : (f' : ℕ → ℕ) → Closed G fit chart n f'
      → (i k : ℕ) → i ≤ n → has k (in_column G fit chart n i) ≡ true → has k (f' i) ≡ true
  column-least f' c i k h e =
      column-inside G fit chart n (λ (j a : ℕ). has j (f' a) ≡ true) ((closed-iff chart n f' G fit).0 c) i k h e

  -- only the cells up to n matter
  pub closed_same : (f f' : ℕ → ℕ) → ((i : ℕ) → i ≤ n → f i ≡ f' i) → Closed G fit chart n f → Closed G fit chart n f'
  closed_same f f' same c i r k h o e =
      ap (has k) (sym (same i h))
      ∙ c i r k h o (cut→cuts fit (joint chart n f) n h
      (cut-mono i n (λ a t _ q. q) (λ j a b l m u q. back j a b (omega arith) ((joint-piece chart n f' j a b).0 q)) (omega arith)
      (cuts→cut fit (joint chart n f') n o.the.places i h e)))
    where
      back : (j a b : ℕ) → a ≤ n → Piece chart n (Given chart n f') j a b → InSets (joint chart n f) j a b
      back j a b m p = (joint-piece chart n f j a b).1 (p.0, λ l. ap (has j) (same a m) ∙ p.1 l)
