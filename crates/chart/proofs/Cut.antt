-- When the places of a rule cut a span into pieces, as a relation over any pieces: equivalent to the test `cuts`, and monotone in the
-- pieces. Assumes nothing.
use Prim.Native.Nat.{ℕ, zero, suc, ◌+◌, ◌-◌, ◌≤◌, ◌<◌}
use mathlib.Core.Bool.{Bool, true, false, false≢true, and-eq-true_iff}
use mathlib.Core.List.{List, [], ◌∷◌}
use mathlib.Core.Logic.{dite}
use mathlib.Core.Path.{◌≡◌, refl, sym, ap, ◌∙◌, subst}
use native.Mathlib.Decide.{ℕ_discrete}
use native.Mathlib.Omega.{arith}
use lib.Dec.{eqb}
use borrow.Author.Tests.{eq-eqb, eqb-true}
use Rattle.laws.proofs.Bools.{by-test, bool-ext}
use Rattle.sets.specs.Set.{has}
use Rattle.cfg.specs.Grammar.{Symbol, nonterminal, terminal, Terminal}
use Rattle.chart.specs.Cell.{Fit, piece, some_from, cuts}

-- the places cut the span from a to n, where `covers k a b` says that the nonterminal k may cover the span from a to b
pub data Cut (fit : Fit) (covers : ℕ → ℕ → ℕ → Type 0) (n : ℕ) : List Symbol → ℕ → Type 0 where
  cut_end : {a : ℕ} → a ≡ n → Cut fit covers n [] a
  cut_leaf : {t : Terminal} {places : List Symbol} {a : ℕ}
      → a < n → fit a t ≡ true → Cut fit covers n places (suc a) → Cut fit covers n (terminal t ∷ places) a
  cut_node : {k : ℕ} {places : List Symbol} {a : ℕ} (b : ℕ)
      → a ≤ b → b ≤ n → covers k a b → Cut fit covers n places b → Cut fit covers n (nonterminal k ∷ places) a

-- the nonterminal k may cover the span from a to b if the set of that span has it
abbrev pub InSets : (ℕ → ℕ → ℕ) → ℕ → ℕ → ℕ → Type 0
InSets sets k a b = has k (sets a b) ≡ true

pub cut-mono : {fit fit' : Fit} {covers covers' : ℕ → ℕ → ℕ → Type 0} (i n : ℕ)
    → ((a : ℕ) (t : Terminal) → a < n → fit a t ≡ true → fit' a t ≡ true)
    → ((k a b : ℕ) → i ≤ a → a ≤ b → b ≤ n → covers k a b → covers' k a b)
    → {places : List Symbol} {a : ℕ} → i ≤ a → Cut fit covers n places a → Cut fit' covers' n places a
cut-mono i n f p h (cut_end e) = cut_end e
cut-mono i n f p h (cut_leaf {t = t} {a = a} l q c) = cut_leaf l (f a t l q) (cut-mono i n f p (omega arith) c)
cut-mono i n f p h (cut_node {k = k} {a = a} b l m q c) = cut_node b l m (p k a b h l m q) (cut-mono i n f p (omega arith) c)

-- ---- some number from a on passes the test

pub some-find : (a m : ℕ) (test : ℕ → Bool) → some_from a m test ≡ true → (b : ℕ) × (a ≤ b) × (b ≤ a + m) × (test b ≡ true)
unfolding some_from
some-find a zero test e = (a, omega arith, omega arith, e)
some-find a (suc m) test e = by-test (test a) (λ q. (a, omega arith, omega arith, q))
    (λ q. let r = some-find (suc a) m test (rw q at e) in (r.0, omega arith, omega arith, r.3))

pub some_at : (a m : ℕ) (test : ℕ → Bool) (b : ℕ) → a ≤ b → b ≤ a + m → test b ≡ true → some_from a m test ≡ true
unfolding some_from
some_at a zero test b l h e = let q : b ≡ a = omega arith in rw q at e
some_at a (suc m) test b l h e = by-test (test a) (λ q. rw q) (λ q. dite (ℕ_discrete b a)
    (λ p. absurd (false≢true (sym q ∙ ap test (sym p) ∙ e)))
    (λ p. let z : ¬ (b ≡ a) = p in rw q (some_at (suc a) m test b (omega arith) (omega arith) e)))

-- ---- the test and the relation

module _ (fit : Fit) (sets : ℕ → ℕ → ℕ) (n : ℕ) where
  -- the test goes on at b if the first of the places covers the span from a to b
  after : Symbol → List Symbol → ℕ → ℕ → Bool
  after s places a b = elim (piece fit sets s a b) [ true ↦ cuts fit sets places b n | false ↦ false ]

  after-true : (s : Symbol) (places : List Symbol) (a b : ℕ) → after s places a b ≡ true
      → (piece fit sets s a b ≡ true) × (cuts fit sets places b n ≡ true)
  unfolding after
  after-true s places a b e = by-test (piece fit sets s a b)
      (λ q. (q, rw (q, after) at e)) (λ q. absurd (false≢true (rw (q, after) at e)))

  true-after : (s : Symbol) (places : List Symbol) (a b : ℕ) → piece fit sets s a b ≡ true → cuts fit sets places b n ≡ true
      → after s places a b ≡ true
  unfolding after
  true-after s places a b e h = rw (e, after) h

  pub cuts→cut : (places : List Symbol) (a : ℕ) → a ≤ n → cuts fit sets places a n ≡ true → Cut fit (InSets sets) n places a
  unfolding cuts after piece
  cuts→cut [] a h e = cut_end (eqb-true a n e)
  cuts→cut (nonterminal k ∷ places) a h e =
      let r = some-find a (n - a) (after (nonterminal k) places a) e in
      let q = after-true (nonterminal k) places a r.0 r.3 in
      let m : r.0 ≤ n = omega arith in
      cut_node r.0 r.1 m q.0 (cuts→cut places r.0 m q.1)
  cuts→cut (terminal t ∷ places) a h e =
      let r = some-find a (n - a) (after (terminal t) places a) e in
      let q = after-true (terminal t) places a r.0 r.3 in
      let p = (and-eq-true_iff (eqb r.0 (suc a)) (fit a t)).0 q.0 in
      let s : r.0 ≡ suc a = eqb-true r.0 (suc a) p.0 in
      let m : a < n = omega arith in
      cut_leaf m p.1 (cuts→cut places (suc a) m (subst (λ (b : ℕ). cuts fit sets places b n ≡ true) s q.1))

  pub cut→cuts : {places : List Symbol} {a : ℕ} → a ≤ n → Cut fit (InSets sets) n places a → cuts fit sets places a n ≡ true
  unfolding cuts after piece
  cut→cuts h (cut_end {a} e) = eq-eqb a n e
  cut→cuts h (cut_leaf {t} {places} {a} l q c) = some_at a (n - a) (after (terminal t) places a) (suc a) (omega arith) (omega arith)
      (true-after (terminal t) places a (suc a) (rw (eq-eqb (suc a) (suc a) refl) q) (cut→cuts l c))
  cut→cuts h (cut_node {k} {places} {a} b l m q c) = some_at a (n - a) (after (nonterminal k) places a) b l (omega arith)
      (true-after (nonterminal k) places a b q (cut→cuts m c))

-- ---- the test looks only at bytes before n, and at spans from i on and up to n

module _ {fit fit' : Fit} {sets sets' : ℕ → ℕ → ℕ} (i n : ℕ) (h : i ≤ n) where
  pub cuts-cong : ((a : ℕ) (t : Terminal) → a < n → fit a t ≡ fit' a t)
      → ((a b : ℕ) → i ≤ a → a ≤ b → b ≤ n → sets a b ≡ sets' a b)
      → (places : List Symbol) → cuts fit sets places i n ≡ cuts fit' sets' places i n
  cuts-cong f s places = bool-ext (cuts fit sets places i n) (cuts fit' sets' places i n)
      (λ e. cut→cuts fit' sets' n h
      (cut-mono i n (λ a t l q. sym (f a t l) ∙ q) (λ k a b l m o q. ap (has k) (sym (s a b l m o)) ∙ q) (omega arith)
      (cuts→cut fit sets n places i h e)))
      (λ e. cut→cuts fit sets n h
      (cut-mono i n (λ a t l q. f a t l ∙ q) (λ k a b l m o q. ap (has k) (s a b l m o) ∙ q) (omega arith)
      (cuts→cut fit' sets' n places i h e)))
