-- The machine over lists of calls: what a list says after its front; that the place never passes N; and which calls stay at their place and
-- hand nothing out. Assumes nothing.
use Prim.Native.Nat.{ℕ, suc, ◌≤◌}
use native.Mathlib.Decide.{dec_lt}
use native.Mathlib.Omega.{arith}
use mathlib.Core.List.{List, [], ◌∷◌, ◌++◌}
use mathlib.Core.Logic.{dite}
use mathlib.Core.Path.{◌≡◌, refl, sym, ap, subst, ◌∙◌}
use lib.ListN.{length, drop}
use lib.Seq.{drop-append_seam}
use Rattle.cfg.specs.Grammar.{Cfg}
use Rattle.cfg.specs.Tree.{HasTree}
use Rattle.results.specs.Walk.{Call, first, next_copy, next_other, count, Said, hands, no_derivation, refuses, counts}
use Rattle.results.specs.Walk.{Move, move, N, walk, walked, place_after, handed_out}
use Rattle.results.proofs.Demand3.Machine.{either_side, first-none, next-zero, next_last, next-other, count_none, count-some}
use Rattle.results.proofs.Demand3.Machine.{walk-keeps}
use Rattle.results.proofs.Demand3.Figures.{says_count-handed}

-- a move that stays at the place p and hands nothing out
abbrev pub Idle : ℕ → Move → Type 0
Idle p m = (m.place ≡ p) × ((said : List Said) → handed_out (m.said ∷ said) ≡ handed_out said)

module _ (G : Cfg) (w : List ℕ) (tree : Dec (HasTree G w)) where
  -- ---- lists of calls one after the other

  pub walked-append : (a b : List Call) (p : ℕ)
      → walked G w tree (a ++ b) p ≡ walked G w tree a p ++ walked G w tree b (place_after G w tree a p)
  unfolding walked place_after
  walked-append [] b p = refl
  walked-append (c ∷ a) b p = ap (λ (l : List Said). (walk G w tree c p).said ∷ l) (walked-append a b (walk G w tree c p).place)

  pub place_after-append : (a b : List Call) (p : ℕ) → place_after G w tree (a ++ b) p ≡ place_after G w tree b (place_after G w tree a p)
  unfolding place_after
  place_after-append [] b p = refl
  place_after-append (c ∷ a) b p = place_after-append a b (walk G w tree c p).place

  pub walked-length : (calls : List Call) (p : ℕ) → length (walked G w tree calls p) ≡ length calls
  unfolding walked
  walked-length [] p = refl
  walked-length (c ∷ calls) p = ap suc (walked-length calls (walk G w tree c p).place)

  pub place_after-small : (calls : List Call) (p : ℕ) → p ≤ N G w → place_after G w tree calls p ≤ N G w
  unfolding place_after
  place_after-small [] p h = h
  place_after-small (c ∷ calls) p h = place_after-small calls (walk G w tree c p).place (walk-keeps G w tree c p h).0

  -- what a list of calls says after its front a: the answers to the rest of it
  pub walked-since : (a b : List Call) (p : ℕ)
      → drop (length a) (walked G w tree (a ++ b) p) ≡ walked G w tree b (place_after G w tree a p)
  walked-since a b p =
      rw (walked-append a b p, ← walked-length a p) (drop-append_seam (walked G w tree a p) (walked G w tree b (place_after G w tree a p)))

  -- ---- calls that stay and hand nothing out

  pub idle-other : (p : ℕ) → Idle p (walk G w tree next_other p)
  unfolding handed_out
  idle-other p = subst (Idle p) (sym (next-other G w tree p)) (refl, λ said. refl)

  pub idle-count : (p : ℕ) → Idle p (walk G w tree count p)
  unfolding handed_out
  idle-count p = dite (dec_lt 0 (N G w))
      (λ h. subst (Idle p) (sym (count-some G w tree p h)) (refl, says_count-handed (N G w)))
      (λ h. subst (Idle p) (sym (count_none G w tree p (omega arith)))
      (either_side (λ (s : Said). Idle p (move s p)) tree (refuses 13) (counts 0) (refl, λ said. refl) (refl, λ said. refl)))

  pub idle-next-zero : Idle 0 (walk G w tree next_copy 0)
  unfolding handed_out
  idle-next-zero = subst (Idle 0) (sym (next-zero G w tree)) (refl, λ said. refl)

  pub idle-next-last : (p : ℕ) → N G w ≤ suc p → Idle (suc p) (walk G w tree next_copy (suc p))
  unfolding handed_out
  idle-next-last p h = subst (Idle (suc p)) (sym (next_last G w tree p h)) (refl, λ said. refl)

  pub idle-first : (p : ℕ) → N G w ≡ 0 → Idle p (walk G w tree first p)
  unfolding handed_out
  idle-first p h = subst (Idle p) (sym (first-none G w tree p h))
      (either_side (λ (s : Said). Idle p (move s p)) tree (refuses 13) no_derivation (refl, λ said. refl) (refl, λ said. refl))

  -- an idle call at the front of a list changes neither the place at the end nor what is handed out
  pub idle-place : (c : Call) (calls : List Call) (p : ℕ) → Idle p (walk G w tree c p)
      → place_after G w tree (c ∷ calls) p ≡ place_after G w tree calls p
  unfolding place_after
  idle-place c calls p i = ap (place_after G w tree calls) i.0

  pub idle-handed : (c : Call) (calls : List Call) (p : ℕ) → Idle p (walk G w tree c p)
      → handed_out (walked G w tree (c ∷ calls) p) ≡ handed_out (walked G w tree calls p)
  unfolding walked
  idle-handed c calls p i = i.1 _ ∙ ap (λ (q : ℕ). handed_out (walked G w tree calls q)) i.0

  -- a call that hands out the reading e and goes to the place q
  pub moves-place : (c : Call) (calls : List Call) (p q : ℕ) (e : List ℕ) → walk G w tree c p ≡ move (hands e) q
      → place_after G w tree (c ∷ calls) p ≡ place_after G w tree calls q
  unfolding place_after
  moves-place c calls p q e m = ap (λ (k : Move). place_after G w tree calls k.place) m

  pub moves-handed : (c : Call) (calls : List Call) (p q : ℕ) (e : List ℕ) → walk G w tree c p ≡ move (hands e) q
      → handed_out (walked G w tree (c ∷ calls) p) ≡ e ∷ handed_out (walked G w tree calls q)
  unfolding walked handed_out
  moves-handed c calls p q e m = ap (λ (k : Move). handed_out (k.said ∷ walked G w tree calls k.place)) m
