-- What document 01 says of first, next and count, for the decided results: a first and enough nexts hand out L and end with "none"; count
-- is exact; "no reading" and refusal 13 mean what they say. Assumes nothing.
use Prim.Native.Nat.{ℕ, suc, ◌+◌, ◌-◌, ◌≤◌, ◌<◌, min}
use native.Mathlib.Decide.{dec_lt, dec_le}
use native.Mathlib.Omega.{arith}
use mathlib.Core.Bool.{true}
use mathlib.Core.List.{List, [], ◌∷◌, ◌++◌, map}
use mathlib.Core.Logic.{◌↔◌, ◌⊎◌, inl, inr, dite, ite}
use mathlib.Core.Path.{◌≡◌, refl, sym, ap, subst, ◌∙◌}
use lib.ListN.{length, take, replicate}
use lib.Seq.{take-length}
use Rattle.sizes.specs.Sizes.{cells, output_size, most, max_input}
use Rattle.cfg.specs.Tree.{HasTree}
use Rattle.cfg.specs.Listing.{L}
use Rattle.chart.proofs.Derived.{Bounded}
use Rattle.grammar.specs.Valid.{valid_grammar}
use Rattle.grammar.specs.View.{Dated, grammar_of}
use Rattle.grammar.proofs.Bounds.{valid-bounded}
use Rattle.results.specs.Answer.{Answer, refused, answered, Handing, handed, nothing, Figure, counted, more}
use Rattle.results.specs.Check.{Checking}
use Rattle.results.specs.Enumerate.{Enumeration, figure, first_in, count_in, first_of, count_of}
use Rattle.results.specs.Walk.{Call, hands, N, handed_out, nexts, NoFirst}
use Rattle.results.specs.Walk as Walk
use Rattle.results.specs.History.{first, which, AllAllowed, history}
use Rattle.results.specs.Demand3.{LastFirst, next_calls, Larger}
use Rattle.results.proofs.Goes.{first-passed, count-passed}
use Rattle.results.proofs.Answers.{refused-apart, answered-apart, handed-apart, figures-apart}
use Rattle.results.proofs.Demand3.Figures.{figure-counted, figure-more}
use Rattle.results.proofs.Demand3.Listed.{L-none, L-some, L-no-tree}
use Rattle.results.proofs.Demand3.Decided.{count_in-none, count_in-some, first_in-none, first_in-some}
use Rattle.results.proofs.Demand3.Walk.{ready, ready-out, tree-decided, walk-holds}
use Rattle.results.proofs.Demand3.Nexts.{first-nexts}
use Rattle.results.proofs.Demand3.Handed.{demand-3}

next_calls-which : (lent : List (List ℕ × List ℕ)) → map which (next_calls lent) ≡ replicate (length lent) Walk.next_copy
next_calls-which [] = refl
next_calls-which (l ∷ lent) = ap (λ (c : List Call). Walk.next_copy ∷ c) (next_calls-which lent)

next_calls-nexts : (lent : List (List ℕ × List ℕ)) → nexts (map which (next_calls lent)) ≡ length lent
unfolding nexts
next_calls-nexts [] = refl
next_calls-nexts (l ∷ lent) = ap suc (next_calls-nexts lent)

next_calls-no-first : (lent : List (List ℕ × List ℕ)) → NoFirst (map which (next_calls lent))
next_calls-no-first [] = tt
next_calls-no-first (l ∷ lent) = next_calls-no-first lent

abbrev last-of-first : (chart out : List ℕ) (lent : List (List ℕ × List ℕ)) → LastFirst (first chart out ∷ next_calls lent)
last-of-first chart out lent =
    record { before = []; chart = chart; out = out; after = next_calls lent; split = refl; none = next_calls-no-first lent }

larger-none : (g : Dated) (w : List ℕ) → Larger g w → N (grammar_of g) w ≡ 0
larger-none g w l = dite (dec_lt 0 (N (grammar_of g) w))
    (λ h. let s = L-some (grammar_of g) w h in let k = l.1 s.0 s.1 in absurd (omega arith))
    (λ h. omega arith)

module _ (g : Dated) (valid : valid_grammar g.grammar ≡ true) (w : List ℕ) (high : length w ≤ max_input) where
  -- ---- a first and n nexts that are offered the copy

  module _ (chart out : List ℕ) (lent : List (List ℕ × List ℕ)) (a : AllAllowed (grammar_of g) w (first chart out ∷ next_calls lent)) where
    -- with n at least N - 1 the answers are the rows of L, one after the other, and then "none"
    pub first-then-next-said : 1 ≤ N (grammar_of g) w → N (grammar_of g) w ≤ suc (length lent)
        → history g w [] (first chart out ∷ next_calls lent)
        ≡ map hands (L (grammar_of g) w) ++ replicate (suc (length lent) - N (grammar_of g) w) Walk.none_left
    first-then-next-said l h =
        let tree = tree-decided g valid w high in
        walk-holds g valid w high tree (first chart out ∷ next_calls lent) a
        ∙ ap (λ (c : List Call). Walk.walked (grammar_of g) w tree (Walk.first ∷ c) 0) (next_calls-which lent)
        ∙ first-nexts (grammar_of g) w tree (length lent) 0 l h

    -- with n at least N they hand out L
    pub first-then-next : N (grammar_of g) w ≤ length lent
        → handed_out (history g w [] (first chart out ∷ next_calls lent)) ≡ L (grammar_of g) w
    first-then-next h =
        let tree = tree-decided g valid w high in
        let n = next_calls-nexts lent in
        let f = last-of-first chart out lent in
        let e : min (N (grammar_of g) w) (1 + nexts (map which (next_calls lent))) ≡ N (grammar_of g) w = omega arith in
        let d = demand-3 g valid w high tree (first chart out ∷ next_calls lent) a in
        d.handed_since f ∙ ap (λ (k : ℕ). take k (L (grammar_of g) w)) (d.place_since f ∙ e) ∙ take-length (L (grammar_of g) w)

  -- ---- what count answers

  module _ (chart : List ℕ) (c : cells ≤ length chart) where
    bounded : Bounded (grammar_of g)
    bounded = valid-bounded g valid

    count-in : (count_of g w chart).answer ≡ (count_in (grammar_of g) w chart).answer
    count-in = ap (λ (k : Checking Figure). k.answer) (count-passed g w chart (ready g valid w high chart c))

    count-some : 0 < N (grammar_of g) w → (count_of g w chart).answer ≡ answered (figure (N (grammar_of g) w))
    count-some l = count-in ∙ count_in-some (grammar_of g) w chart l

    count_none : N (grammar_of g) w ≡ 0 → (tree : Dec (HasTree (grammar_of g) w))
        → (count_of g w chart).answer ≡ ite tree (refused 13) (answered (counted 0))
    count_none h tree = count-in ∙ count_in-none (grammar_of g) bounded w high chart c h tree

    -- what holds in each case: by how many readings L has, and whether the input has a tree
    pub count_by : (P : Answer Figure → Type 0)
        → (0 < N (grammar_of g) w → N (grammar_of g) w ≤ most → P (answered (counted (N (grammar_of g) w))))
        → (most < N (grammar_of g) w → P (answered more))
        → (Larger g w → P (refused 13)) → ((HasTree (grammar_of g) w → ⊥) → P (answered (counted 0))) → P (count_of g w chart).answer
    count_by P some above larger none = dite (dec_lt 0 (N (grammar_of g) w))
        (λ l. subst P (sym (count-some l)) (dite (dec_le (N (grammar_of g) w) most)
        (λ h. rw (figure-counted (N (grammar_of g) w) h) (some l h))
        (λ h. let m : most < N (grammar_of g) w = omega arith in rw (figure-more (N (grammar_of g) w) m) (above m))))
        (λ l. let z : N (grammar_of g) w ≡ 0 = omega arith in by z (tree-decided g valid w high))
      where
        by : N (grammar_of g) w ≡ 0 → Dec (HasTree (grammar_of g) w) → P (count_of g w chart).answer
        by z (yes t) = subst P (sym (count_none z (yes t))) (larger (t, L-none (grammar_of g) w z))
        by z (no n) = subst P (sym (count_none z (no n))) (none n)

    -- count gives N if N is at most 4,096, and there is a reading or no tree
    pub count-exact : N (grammar_of g) w ≤ most → (1 ≤ N (grammar_of g) w) ⊎ (HasTree (grammar_of g) w → ⊥)
        → (count_of g w chart).answer ≡ answered (counted (N (grammar_of g) w))
    count-exact h (inl l) = count-some l ∙ ap answered (figure-counted (N (grammar_of g) w) h)
    count-exact h (inr n) =
        let e = L-no-tree (grammar_of g) w n in
        count_none e (no n) ∙ ap (λ (k : ℕ). answered (counted k)) (sym e)

    pub count-more : ((count_of g w chart).answer ≡ answered more) ↔ (most < N (grammar_of g) w)
    count-more = (
      count_by (λ a. a ≡ answered more → most < N (grammar_of g) w)
          (λ l h e. absurd (figures-apart (N (grammar_of g) w) e)) (λ h e. h) (λ l e. absurd (refused-apart e))
          (λ n e. absurd (figures-apart 0 e)),
      λ h. count-some (omega arith) ∙ ap answered (figure-more (N (grammar_of g) w) h),
    )

    pub count-larger : ((count_of g w chart).answer ≡ refused 13) ↔ Larger g w
    count-larger = (
      count_by (λ a. a ≡ refused 13 → Larger g w) (λ l h e. absurd (answered-apart e)) (λ h e. absurd (answered-apart e)) (λ l e. l)
          (λ n e. absurd (answered-apart e)),
      λ l. count_none (larger-none g w l) (yes l.0),
    )

    -- ---- what first answers

    module _ (out : List ℕ) (o : output_size ≤ length out) where
      first-in : (first_of g w chart out).answer ≡ (first_in (grammar_of g) w chart out).answer
      first-in = ap (λ (r : Enumeration). r.answer) (first-passed g w chart out (ready-out g valid w high chart out c o))

      first-none : N (grammar_of g) w ≡ 0 → (tree : Dec (HasTree (grammar_of g) w))
          → (first_of g w chart out).answer ≡ ite tree (refused 13) (answered nothing)
      first-none h tree = first-in ∙ first_in-none (grammar_of g) bounded w high chart c out h tree

      pub first_by : (P : Answer Handing → Type 0) → ((n : ℕ) → 0 < N (grammar_of g) w → P (answered (handed n)))
          → (Larger g w → P (refused 13)) → ((HasTree (grammar_of g) w → ⊥) → P (answered nothing)) → P (first_of g w chart out).answer
      first_by P some larger none = dite (dec_lt 0 (N (grammar_of g) w))
          (λ l. subst P (sym (first-in ∙ first_in-some (grammar_of g) w chart out l)) (some _ l))
          (λ l. let z : N (grammar_of g) w ≡ 0 = omega arith in by z (tree-decided g valid w high))
        where
          by : N (grammar_of g) w ≡ 0 → Dec (HasTree (grammar_of g) w) → P (first_of g w chart out).answer
          by z (yes t) = subst P (sym (first-none z (yes t))) (larger (t, L-none (grammar_of g) w z))
          by z (no n) = subst P (sym (first-none z (no n))) (none n)

      pub no-derivation-exact : ((first_of g w chart out).answer ≡ answered nothing) ↔ (HasTree (grammar_of g) w → ⊥)
      no-derivation-exact = (
        first_by (λ a. a ≡ answered nothing → HasTree (grammar_of g) w → ⊥) (λ n l e. absurd (handed-apart e))
            (λ l e. absurd (refused-apart e)) (λ n e. n),
        λ n. first-none (L-no-tree (grammar_of g) w n) (no n),
      )

      pub larger-exact : ((first_of g w chart out).answer ≡ refused 13) ↔ Larger g w
      larger-exact = (
        first_by (λ a. a ≡ refused 13 → Larger g w) (λ n l e. absurd (answered-apart e)) (λ l e. l) (λ n e. absurd (answered-apart e)),
        λ l. first-none (larger-none g w l) (yes l.0),
      )
