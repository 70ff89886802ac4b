-- One call says what the machine says, for a grammar whose nonterminals are below 32, an input of at most 64 bytes, and a copy that is the
-- reading of the machine's place. Assumes nothing.
use Prim.Native.Nat.{◌/◌, ℕ, zero, suc, ◌≤◌}
use native.Mathlib.Decide.{dec_lt}
use native.Mathlib.Omega.{arith}
use mathlib.Core.List.{List, [], Memᴰ}
use mathlib.Core.Logic.{dite, ite}
use mathlib.Core.Option.{Option, none, some}
use mathlib.Core.Path.{◌≡◌, refl, sym, ap, ◌∙◌}
use lib.ListN.{length, get_or}
use Rattle.sizes.specs.Sizes.{max_input, cells}
use Rattle.cfg.specs.Grammar.{Cfg}
use Rattle.cfg.specs.Tree.{HasTree}
use Rattle.cfg.specs.Derivation.{Derivation, limit}
use Rattle.cfg.specs.Listing.{L}
use Rattle.chart.proofs.Derived.{Bounded}
use Rattle.theory_listing.proofs.Exact.{listed→derivation}
use Rattle.results.specs.Walk.{Said, Move, hands_out, hands, no_derivation, none_left, refuses, counts, N, reading, walk}
use Rattle.results.specs.Walk as Walk
use Rattle.results.specs.Answer.{Answer, refused, answered, Handing, nothing, counted}
use Rattle.results.specs.Enumerate.{Enumeration, handing_out, head_of, after_in, first_in, next_in, count_in}
use Rattle.results.specs.History.{Made, first, next_copy, next_other, count, which, Allowed, said_of, count_said, says_in}
use Rattle.results.proofs.Demand3.Rows.{at-member, head-some, head-none, after_next, after_last}
use Rattle.results.proofs.Demand3.Listed.{L-rising, reading-not-empty, reading-back}
use Rattle.results.proofs.Demand3.Figures.{figure-said}
use Rattle.results.proofs.Demand3.Machine.{first_some, first-none, next-zero, next-some, next_last, next-other}
use Rattle.results.proofs.Demand3.Machine.{count_none, count-some}
use Rattle.results.proofs.Demand3.Decided.{tree_in-choice, count_in-none, count_in-some, next_in-listed, next_in-other}

-- what the caller sees of first and next
abbrev pub seen : Said → Enumeration → Said
seen s r = said_of s r.answer r.output

-- a choice by whether there is a tree, as the caller sees it
first-choice : {P : Type 0} (d : Dec P) (out : List ℕ)
    → said_of no_derivation (ite d (refused 13) (answered nothing)) out ≡ ite d (refuses 13) no_derivation
unfolding said_of
first-choice (yes t) out = refl
first-choice (no t) out = refl

count-choice : {P : Type 0} (d : Dec P) → count_said (ite d (refused 13) (answered (counted 0))) ≡ ite d (refuses 13) (counts 0)
unfolding count_said
count-choice (yes t) = refl
count-choice (no t) = refl

module _ (G : Cfg) (w : List ℕ) where
  -- a reading of L that is handed out is seen whole
  seen-some : (e : List ℕ) → Memᴰ e (L G w) → (o : Option (List ℕ)) → o ≡ some e → (s : Said) (a : Answer Handing)
      (chart out : List ℕ) → seen s (handing_out o a chart out) ≡ hands e
  unfolding handing_out said_of
  seen-some e i o q s a chart out = rw q (ap (hands_out (length e / 2)) (reading-back G w e i out))

  seen_none : (o : Option (List ℕ)) → o ≡ none → (s : Said) (a : Answer Handing) (chart out : List ℕ)
      → seen s (handing_out o a chart out) ≡ said_of s a out
  unfolding handing_out
  seen_none o q s a chart out = rw q

  module _ (bounded : Bounded G) (high : length w ≤ max_input) (tree : Dec (HasTree G w)) (chart : List ℕ) where
    pub first_said : cells ≤ length chart → (out : List ℕ) (p : ℕ)
        → seen no_derivation (first_in G w chart out) ≡ (walk G w tree Walk.first p).said
    unfolding first_in
    first_said c out p = dite (dec_lt 0 (N G w))
        (λ h. seen-some (reading G w 1) (at-member (L G w) 0 h) (head_of (L G w)) (head-some _ h) _ _ _ out
        ∙ sym (ap (λ (m : Move). m.said) (first_some G w tree p h)))
        (λ h. seen_none (head_of (L G w)) (head-none _ (omega arith)) _ _ _ out
        ∙ ap (λ (a : Answer Handing). said_of no_derivation a out)
        (tree_in-choice G bounded w high chart c tree (refused 13) (answered nothing))
        ∙ first-choice tree out
        ∙ sym (ap (λ (m : Move). m.said) (first-none G w tree p (omega arith))))

    pub next-said : (out : List ℕ) (p : ℕ) → p ≤ N G w
        → seen none_left (next_in G w (reading G w p) chart out) ≡ (walk G w tree Walk.next_copy p).said
    unfolding said_of
    next-said out zero h =
        ap (seen none_left) (next_in-other G w chart out [] (reading-not-empty G w))
        ∙ sym (ap (λ (m : Move). m.said) (next-zero G w tree))
    next-said out (suc i) h = dite (dec_lt (suc i) (N G w))
        (λ k. ap (seen none_left) (next_in-listed G w chart out e (at-member l i h))
        ∙ seen-some (get_or l (suc i) []) (at-member l (suc i) k) (after_in e l) (after_next l (L-rising G w) i k) _ _ _ out
        ∙ sym (ap (λ (m : Move). m.said) (next-some G w tree i k)))
        (λ k. ap (seen none_left) (next_in-listed G w chart out e (at-member l i h))
        ∙ seen_none (after_in e l) (after_last l (L-rising G w) i (omega arith)) _ _ _ out
        ∙ sym (ap (λ (m : Move). m.said) (next_last G w tree i (omega arith))))
      where
        l : List (List ℕ)
        l = L G w

        e : List ℕ
        e = get_or l i []

    pub other-said : (out e : List ℕ) → (Derivation G limit w e → ⊥) → (p : ℕ)
        → seen none_left (next_in G w e chart out) ≡ (walk G w tree Walk.next_other p).said
    unfolding said_of
    other-said out e n p =
        ap (seen none_left) (next_in-other G w chart out e (λ i. n (listed→derivation G limit w e i)))
        ∙ sym (ap (λ (m : Move). m.said) (next-other G w tree p))

    pub count-said : cells ≤ length chart → (p : ℕ) → count_said (count_in G w chart).answer ≡ (walk G w tree Walk.count p).said
    count-said c p = dite (dec_lt 0 (N G w))
        (λ h. ap count_said (count_in-some G w chart h)
        ∙ figure-said (N G w)
        ∙ sym (ap (λ (m : Move). m.said) (count-some G w tree p h)))
        (λ h. ap count_said (count_in-none G bounded w high chart c (omega arith) tree)
        ∙ count-choice tree
        ∙ sym (ap (λ (m : Move). m.said) (count_none G w tree p (omega arith))))

  -- one allowed call
  pub says_in-walk : Bounded G → length w ≤ max_input → (tree : Dec (HasTree G w)) (m : Made) → Allowed G w m → (p : ℕ) → p ≤ N G w
      → says_in G w (reading G w p) m ≡ (walk G w tree (which m) p).said
  unfolding says_in
  says_in-walk b l tree (first chart out) a p h = first_said b l tree chart a.0 out p
  says_in-walk b l tree (next_copy chart out) a p h = next-said b l tree chart out p h
  says_in-walk b l tree (next_other e chart out) a p h = other-said b l tree chart out e a.2 p
  says_in-walk b l tree (count chart) a p h = count-said b l tree chart a p
