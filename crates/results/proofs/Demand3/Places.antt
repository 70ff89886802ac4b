-- Demand 3, second half, over the machine. Before any first the place is 0 and nothing is handed out. After one, the derivations handed
-- out since the last first, its own included, are the first p of L in their order. Here p is the place: the smaller of N and 1 plus how
-- often next was since offered the copy. Assumes nothing.
use Prim.Native.Nat.{ℕ, zero, suc, ◌+◌, ◌≤◌, ◌<◌, min}
use native.Mathlib.Decide.{dec_lt}
use native.Mathlib.Omega.{arith}
use mathlib.Core.List.{List, [], ◌∷◌, ◌++◌, append-nil}
use mathlib.Core.Logic.{dite}
use mathlib.Core.Path.{◌≡◌, refl, sym, ap, ◌∙◌}
use lib.ListN.{length, take, drop, get_or}
use lib.Seq.{take-suc, append_snoc}
use Rattle.cfg.specs.Grammar.{Cfg}
use Rattle.cfg.specs.Tree.{HasTree}
use Rattle.cfg.specs.Listing.{L}
use Rattle.results.specs.Walk.{Call, first, next_copy, next_other, count, hands}
use Rattle.results.specs.Walk.{move, N, reading, walk, walked, place_after, handed_out, nexts, NoFirst}
use Rattle.results.proofs.Demand3.Machine.{first_some, next-some}
use Rattle.results.proofs.Demand3.Idle.{place_after-append, place_after-small, walked-since}
use Rattle.results.proofs.Demand3.Idle.{Idle, idle-other, idle-count, idle-next-zero}
use Rattle.results.proofs.Demand3.Idle.{idle-next-last, idle-first, idle-place, idle-handed, moves-place, moves-handed}

module _ (G : Cfg) (w : List ℕ) (tree : Dec (HasTree G w)) where
  -- ---- before any first

  -- these calls stay at the place 0 and hand nothing out
  abbrev pub Still : List Call → Type 0
  Still calls = (place_after G w tree calls 0 ≡ 0) × (handed_out (walked G w tree calls 0) ≡ [])

  still-idle : (c : Call) (calls : List Call) → Idle 0 (walk G w tree c 0) → Still calls → Still (c ∷ calls)
  still-idle c calls i s = (idle-place G w tree c calls 0 i ∙ s.0, idle-handed G w tree c calls 0 i ∙ s.1)

  pub before-first : (calls : List Call) → NoFirst calls → Still calls
  unfolding place_after walked handed_out
  before-first [] n = (refl, refl)
  before-first (first ∷ calls) n = absurd n
  before-first (next_copy ∷ calls) n = still-idle next_copy calls (idle-next-zero G w tree) (before-first calls n)
  before-first (next_other ∷ calls) n = still-idle next_other calls (idle-other G w tree 0) (before-first calls n)
  before-first (count ∷ calls) n = still-idle count calls (idle-count G w tree 0) (before-first calls n)

  -- ---- after a first

  -- from the place p these calls go to the smaller of N and n; the rows up to p and those handed out are together the first so many of L
  abbrev pub Firsts : List Call → ℕ → ℕ → Type 0
  Firsts calls p n =
      (place_after G w tree calls p ≡ min (N G w) n)
      × (take p (L G w) ++ handed_out (walked G w tree calls p) ≡ take (min (N G w) n) (L G w))

  firsts_same : (calls : List Call) (p m n : ℕ) → min (N G w) m ≡ min (N G w) n → Firsts calls p m → Firsts calls p n
  firsts_same calls p m n e f = (f.0 ∙ e, f.1 ∙ ap (λ (k : ℕ). take k (L G w)) e)

  firsts-idle : (c : Call) (calls : List Call) (p n : ℕ) → Idle p (walk G w tree c p) → Firsts calls p n → Firsts (c ∷ calls) p n
  firsts-idle c calls p n i f =
      (idle-place G w tree c calls p i ∙ f.0, ap (λ (l : List (List ℕ)). take p (L G w) ++ l) (idle-handed G w tree c calls p i) ∙ f.1)

  firsts-moves : (c : Call) (calls : List Call) (p n : ℕ) → p < N G w → walk G w tree c p ≡ move (hands (get_or (L G w) p [])) (suc p)
      → Firsts calls (suc p) n → Firsts (c ∷ calls) p n
  firsts-moves c calls p n h m f = (
    moves-place G w tree c calls p (suc p) (get_or (L G w) p []) m ∙ f.0,
    ap (λ (l : List (List ℕ)). take p (L G w) ++ l) (moves-handed G w tree c calls p (suc p) (get_or (L G w) p []) m)
        ∙ sym (append_snoc (take p (L G w)) (get_or (L G w) p []) (handed_out (walked G w tree calls (suc p))))
        ∙ ap (λ (l : List (List ℕ)). l ++ handed_out (walked G w tree calls (suc p))) (sym (take-suc (L G w) p [] h))
        ∙ f.1,
  )

  pub from_place : (calls : List Call) → NoFirst calls → (p : ℕ) → 1 ≤ p → p ≤ N G w → Firsts calls p (p + nexts calls)
  unfolding place_after walked handed_out nexts
  from_place [] n p l h =
      let e : p ≡ min (N G w) (p + 0) = omega arith in
      (e, append-nil (take p (L G w)) ∙ ap (λ (k : ℕ). take k (L G w)) e)
  from_place (first ∷ calls) n p l h = absurd n
  from_place (next_copy ∷ calls) n zero l h = absurd (omega arith)
  from_place (next_copy ∷ calls) n (suc p) l h = dite (dec_lt (suc p) (N G w))
      (λ k. firsts-moves next_copy calls (suc p) (suc p + suc (nexts calls)) k (next-some G w tree p k)
      (firsts_same calls (suc (suc p)) (suc (suc p) + nexts calls) (suc p + suc (nexts calls)) (omega arith)
      (from_place calls n (suc (suc p)) (omega arith) k)))
      (λ k. firsts-idle next_copy calls (suc p) (suc p + suc (nexts calls)) (idle-next-last G w tree p (omega arith))
      (firsts_same calls (suc p) (suc p + nexts calls) (suc p + suc (nexts calls)) (omega arith) (from_place calls n (suc p) l h)))
  from_place (next_other ∷ calls) n p l h =
      firsts-idle next_other calls p (p + nexts calls) (idle-other G w tree p) (from_place calls n p l h)
  from_place (count ∷ calls) n p l h = firsts-idle count calls p (p + nexts calls) (idle-count G w tree p) (from_place calls n p l h)

  -- the claim for a first at any place p that can be reached
  pub since-first-at : (p : ℕ) → p ≤ N G w → (after : List Call) → NoFirst after
      → (place_after G w tree (first ∷ after) p ≡ min (N G w) (1 + nexts after))
      × (handed_out (walked G w tree (first ∷ after) p) ≡ take (min (N G w) (1 + nexts after)) (L G w))
  since-first-at p h after n = dite (dec_lt 0 (N G w))
      (λ k. let f = from_place after n 1 (omega arith) k in
      let m = first_some G w tree p k in (
        moves-place G w tree first after p 1 (reading G w 1) m ∙ f.0,
        moves-handed G w tree first after p 1 (reading G w 1) m
            ∙ ap (λ (l : List (List ℕ)). l ++ handed_out (walked G w tree after 1)) (sym (take-suc (L G w) 0 [] k))
            ∙ f.1,
      ))
      (λ k. none (omega arith) (omega arith))
    where
      none : p ≡ 0 → N G w ≡ 0
          → (place_after G w tree (first ∷ after) p ≡ min (N G w) (1 + nexts after))
          × (handed_out (walked G w tree (first ∷ after) p) ≡ take (min (N G w) (1 + nexts after)) (L G w))
      none z k =
          let b = before-first after n in
          let e : 0 ≡ min (N G w) (1 + nexts after) = omega arith in
          let i = idle-first G w tree p k in (
            idle-place G w tree first after p i ∙ ap (place_after G w tree after) z ∙ b.0 ∙ e,
            idle-handed G w tree first after p i ∙ ap (λ (q : ℕ). handed_out (walked G w tree after q)) z ∙ b.1
                ∙ ap (λ (q : ℕ). take q (L G w)) e,
          )

  -- the claim over the whole list of calls
  pub since-first : (before after : List Call) → NoFirst after
      → (place_after G w tree (before ++ first ∷ after) 0 ≡ min (N G w) (1 + nexts after))
      × (handed_out (drop (length before) (walked G w tree (before ++ first ∷ after) 0))
      ≡ take (min (N G w) (1 + nexts after)) (L G w))
  since-first before after n =
      let s = since-first-at (place_after G w tree before 0) (place_after-small G w tree before 0 (omega arith)) after n in
      (place_after-append G w tree before (first ∷ after) 0 ∙ s.0, ap handed_out (walked-since G w tree before (first ∷ after) 0) ∙ s.1)
