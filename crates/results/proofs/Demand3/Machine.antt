-- The machine call by call: what each call says at a place and where it goes; the place never passes N, and the reading handed out last
-- is the reading of the place. Assumes nothing.
use Prim.Native.Nat.{ℕ, zero, suc, ◌≤◌, ◌<◌}
use native.Mathlib.Decide.{dec_lt}
use native.Mathlib.Omega.{arith}
use mathlib.Core.List.{List}
use mathlib.Core.Logic.{dite, ite}
use mathlib.Core.Path.{◌≡◌, refl, sym, subst}
use borrow.Author.Tests.{lt-ltb, le-ltb, eq-eqb, ne_eqb}
use Rattle.cfg.specs.Grammar.{Cfg}
use Rattle.cfg.specs.Tree.{HasTree}
use Rattle.results.specs.Walk.{Call, first, next_copy, next_other, count, hands, no_derivation, none_left, refuses, counts, says_count}
use Rattle.results.specs.Walk.{Said, Move, move, N, reading, walk}
use Rattle.results.specs.History.{copied}
use Rattle.results.proofs.Demand3.Figures.{says_count-copied}

-- what holds of both sides of a choice holds of the choice
pub either_side : {A P : Type 0} (Q : A → Type 0) (d : Dec P) (a b : A) → Q a → Q b → Q (ite d a b)
either_side Q (yes t) a b x y = x
either_side Q (no n) a b x y = y

module _ (G : Cfg) (w : List ℕ) (tree : Dec (HasTree G w)) where
  pub first_some : (p : ℕ) → 0 < N G w → walk G w tree first p ≡ move (hands (reading G w 1)) 1
  unfolding walk
  first_some p h = rw (lt-ltb 0 (N G w) h, walk)

  pub first-none : (p : ℕ) → N G w ≡ 0 → walk G w tree first p ≡ move (ite tree (refuses 13) no_derivation) p
  unfolding walk
  first-none p h = rw (le-ltb 0 (N G w) (omega arith), walk)

  pub next-zero : walk G w tree next_copy 0 ≡ move (refuses 12) 0
  unfolding walk
  next-zero = refl

  pub next-some : (p : ℕ) → suc p < N G w
      → walk G w tree next_copy (suc p) ≡ move (hands (reading G w (suc (suc p)))) (suc (suc p))
  unfolding walk
  next-some p h = rw (lt-ltb (suc p) (N G w) h, walk)

  pub next_last : (p : ℕ) → N G w ≤ suc p → walk G w tree next_copy (suc p) ≡ move none_left (suc p)
  unfolding walk
  next_last p h = rw (le-ltb (suc p) (N G w) h, walk)

  pub next-other : (p : ℕ) → walk G w tree next_other p ≡ move (refuses 12) p
  unfolding walk
  next-other p = refl

  pub count_none : (p : ℕ) → N G w ≡ 0 → walk G w tree count p ≡ move (ite tree (refuses 13) (counts 0)) p
  unfolding walk
  count_none p h = rw (eq-eqb (N G w) 0 h, walk)

  pub count-some : (p : ℕ) → 0 < N G w → walk G w tree count p ≡ move (says_count (N G w)) p
  unfolding walk
  count-some p h = rw (ne_eqb (N G w) 0 (omega arith), walk)

  -- a move from the place p keeps to L: its place is at most N, and the copy after it is the reading of its place
  abbrev pub Keeps : ℕ → Move → Type 0
  Keeps p m = (m.place ≤ N G w) × (copied m.said (reading G w p) ≡ reading G w m.place)

  pub walk-keeps : (c : Call) (p : ℕ) → p ≤ N G w → Keeps p (walk G w tree c p)
  unfolding copied
  walk-keeps first p h = dite (dec_lt 0 (N G w))
      (λ k. subst (Keeps p) (sym (first_some p k)) (k, refl))
      (λ k. subst (Keeps p) (sym (first-none p (omega arith)))
      (either_side (λ (s : Said). Keeps p (move s p)) tree (refuses 13) no_derivation (h, refl) (h, refl)))
  walk-keeps next_copy zero h = subst (Keeps 0) (sym next-zero) (h, refl)
  walk-keeps next_copy (suc p) h = dite (dec_lt (suc p) (N G w))
      (λ k. subst (Keeps (suc p)) (sym (next-some p k)) (k, refl))
      (λ k. subst (Keeps (suc p)) (sym (next_last p (omega arith))) (h, refl))
  walk-keeps next_other p h = subst (Keeps p) (sym (next-other p)) (h, refl)
  walk-keeps count p h = dite (dec_lt 0 (N G w))
      (λ k. subst (Keeps p) (sym (count-some p k)) (h, says_count-copied (N G w) (reading G w p)))
      (λ k. subst (Keeps p) (sym (count_none p (omega arith)))
      (either_side (λ (s : Said). Keeps p (move s p)) tree (refuses 13) (counts 0) (h, refl) (h, refl)))
