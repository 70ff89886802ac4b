-- A column is closed under the rules, and it is inside whatever is closed under them. The bound may be any predicate on the cells of the
-- column, also one that is no set of bits, such as "there is a tree". Assumes nothing.
use Prim.Native.Nat.{ℕ, zero, suc, ◌-◌, ◌≤◌, ◌<◌}
use mathlib.Core.Bool.{true}
use mathlib.Core.List.{List}
use mathlib.Core.Logic.{dite}
use mathlib.Core.Path.{◌≡◌, sym, ap, ◌∙◌, subst}
use native.Mathlib.Decide.{dec_lt, ℕ_discrete}
use native.Mathlib.Omega.{arith}
use Rattle.sets.specs.Set.{has}
use Rattle.cfg.specs.Grammar.{Cfg, Of}
use Rattle.chart.specs.Cell.{Fit, cell}
use Rattle.chart.specs.Column.{seen, times, column}
use Rattle.chart.proofs.Cut.{Cut, InSets, cut-mono, cuts→cut, cut→cuts}
use Rattle.chart.proofs.Derived.{Bounded, derived-by, by-derived}
use Rattle.chart.proofs.Rounds.{Sub, rounds-in, rounds-closed}
use Rattle.chart.proofs.Cells.{seen-earlier, seen-own, seen-later, round, in_column, cell-rounds}

-- the pieces: in earlier columns as found, in column n as P says
abbrev pub Piece : List ℕ → ℕ → (ℕ → ℕ → Type 0) → ℕ → ℕ → ℕ → Type 0
Piece chart n P k a b = (b < n → has k (cell chart a b) ≡ true) × (n ≤ b → P k a)

-- the cells of column n that P describes are closed under the rules
abbrev pub ClosedBy : Cfg → Fit → List ℕ → ℕ → (ℕ → ℕ → Type 0) → Type 0
ClosedBy G fit chart n P = (i r k : ℕ) → i ≤ n → (o : Of G r k) → Cut fit (Piece chart n P) n o.the.places i → P k i

module _ (G : Cfg) (fit : Fit) (chart : List ℕ) (n : ℕ) where
  -- what cell (i, n) sees if its own set is `own`
  abbrev sees : ℕ → ℕ → ℕ → ℕ → ℕ
  sees i own = seen chart n i (column G fit chart n (n - i)) own

  -- one round at cell (i, n)
  abbrev once : ℕ → ℕ → ℕ
  once i = round G fit chart n i (column G fit chart n (n - i))

  -- a member that one round gives comes from a rule and a cut
  once_by : (i own k : ℕ) → i ≤ n → has k (once i own) ≡ true
      → (r : ℕ) × (o : Of G r k) × Cut fit (InSets (sees i own)) n o.the.places i
  unfolding round
  once_by i own k h e =
      let (r, ρ, at, l, c) = derived-by fit (sees i own) i n G.rules k e in
      (r, record { the = ρ; here = at; left = l }, cuts→cut fit (sees i own) n ρ.places i h c)

  by-once : (i own r k : ℕ) → i ≤ n → (o : Of G r k) → Cut fit (InSets (sees i own)) n o.the.places i → has k (once i own) ≡ true
  unfolding round
  by-once i own r k h o c = subst (λ (l : ℕ). has l (once i own) ≡ true) o.left
      (by-derived fit (sees i own) i n G.rules r o.the o.here (cut→cuts fit (sees i own) n h c))

  -- what is seen, by cases: an earlier column, the own set, a later start
  seen-cases : (P : ℕ → Type 0) (i own a b : ℕ) → i ≤ n → i ≤ a → (b < n → P (cell chart a b)) → (n ≤ b → a ≡ i → P own)
      → (n ≤ b → i < a → P (in_column G fit chart n a)) → P (sees i own a b)
  seen-cases P i own a b h l x y z = dite (dec_lt b n)
      (λ m. subst P (sym (seen-earlier chart n i (column G fit chart n (n - i)) own a b m)) (x m))
      (λ m. let o : n ≤ b = omega arith in dite (ℕ_discrete a i)
      (λ d. subst P (sym (ap (λ (p : ℕ). sees i own p b) d ∙ seen-own G fit chart n i own b o)) (y o d))
      (λ d. let f : ¬ (a ≡ i) = d in
      let p : i < a = omega arith in
      subst P (sym (seen-later G fit chart n i own a b h p o)) (z o p)))

  seen-mono : (i v w : ℕ) → i ≤ n → Sub v w → (k a b : ℕ) → i ≤ a → has k (sees i v a b) ≡ true → has k (sees i w a b) ≡ true
  seen-mono i v w h s k a b l =
      seen-cases (λ (x : ℕ). has k (sees i v a b) ≡ true → has k x ≡ true) i w a b h l
      (λ m e. ap (has k) (sym (seen-earlier chart n i (column G fit chart n (n - i)) v a b m)) ∙ e)
      (λ m d e. s k (ap (has k) (sym (ap (λ (p : ℕ). sees i v p b) d ∙ seen-own G fit chart n i v b m)) ∙ e))
      (λ m d e. ap (has k) (sym (seen-later G fit chart n i v a b h d m)) ∙ e)

  once-mono : (i : ℕ) → i ≤ n → (v w : ℕ) → Sub v w → Sub (once i v) (once i w)
  once-mono i h v w s k e =
      let (r, o, c) = once_by i v k h e in
      by-once i w r k h o (cut-mono i n (λ a t _ q. q) (λ j a b l _ _ q. seen-mono i v w h s j a b l q) (omega arith) c)

  once-low : Bounded G → (i : ℕ) → i ≤ n → (v k : ℕ) → has k (once i v) ≡ true → k < 32
  once-low low i h v k e = let (r, o, c) = once_by i v k h e in low r k o

  -- the column is closed under the rules
  pub column-closed-by : Bounded G → ClosedBy G fit chart n (λ (k a : ℕ). has k (in_column G fit chart n a) ≡ true)
  column-closed-by low i r k h o c =
      let x = in_column G fit chart n i in
      let e : x ≡ times 32 (once i) 0 = cell-rounds G fit chart n i h in
      let d : Cut fit (InSets (sees i x)) n o.the.places i =
      cut-mono i n (λ a t _ q. q)
      (λ j a b l _ _ q. seen-cases (λ (y : ℕ). has j y ≡ true) i x a b h l
      q.0 (λ m p. subst (λ (y : ℕ). has j (in_column G fit chart n y) ≡ true) p (q.1 m)) (λ m p. q.1 m))
      (omega arith) c in
      subst (λ (y : ℕ). has k (once i y) ≡ true → has k y ≡ true) (sym e)
      (rounds-closed (once i) (once-mono i h) (once-low low i h) k) (by-once i x r k h o d)

  -- the column is inside all that is closed under the rules
  module _ (P : ℕ → ℕ → Type 0) (closed : ClosedBy G fit chart n P) where
    inside-at : (i : ℕ) → i ≤ n → ((a k : ℕ) → i < a → a ≤ n → has k (in_column G fit chart n a) ≡ true → P k a)
        → (k : ℕ) → has k (in_column G fit chart n i) ≡ true → P k i
    inside-at i h later k e = rounds-in (once i) (λ (j : ℕ). P j i) step 32 k (ap (has k) (sym (cell-rounds G fit chart n i h)) ∙ e)
      where
        step : (v : ℕ) → ((j : ℕ) → has j v ≡ true → P j i) → (j : ℕ) → has j (once i v) ≡ true → P j i
        step v s j q =
            let (r, o, c) = once_by i v j h q in
            closed i r j h o (cut-mono i n (λ a t _ p. p) (λ x a b l l' m p. (
              λ u. ap (has x) (sym (seen-earlier chart n i (column G fit chart n (n - i)) v a b u)) ∙ p,
              λ u. seen-cases (λ (y : ℕ). has x y ≡ true → P x a) i v a b h l (λ z. absurd (omega arith))
                  (λ z d w. subst (P x) (sym d) (s x w)) (λ z d w. later a x d (omega arith) w) p,
            )) (omega arith) c)

    pub column-inside : (i k : ℕ) → i ≤ n → has k (in_column G fit chart n i) ≡ true → P k i
    column-inside i k h = go n i h (omega arith) k
      where
        go : (m i : ℕ) → i ≤ n → n - i ≤ m → (k : ℕ) → has k (in_column G fit chart n i) ≡ true → P k i
        go zero i h l = inside-at i h (λ a k p q e. absurd (omega arith))
        go (suc m) i h l = inside-at i h (λ a k p q e. go m a q (omega arith) k e)
