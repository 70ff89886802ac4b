-- The fit table: a place that holds a nonterminal, and what is written with all rules. Assumes nothing.
use Prim.Native.Nat.{ℕ, ◌+◌, ◌*◌, ◌≤◌, ◌<◌}
use mathlib.Core.Bool.{Bool, true, false}
use mathlib.Core.List.{List}
use mathlib.Core.Logic.{◌≢◌, inl, inr, dite}
use mathlib.Core.Path.{◌≡◌, refl, sym, ap, ◌∙◌, subst}
use native.Mathlib.Decide.{ℕ_discrete, dec_lt}
use native.Mathlib.Omega.{arith}
use lib.ListN.{length, replicate}
use borrow.Author.Tests.{le-ltb}
use Rattle.sizes.specs.Sizes.{max_rules, max_input}
use Rattle.laws.proofs.Lists.{zeros-at}
use Rattle.sets.specs.Set.{has}
use Rattle.sets.proofs.Laws.{has-empty}
use Rattle.cfg.specs.Grammar.{Symbol, nonterminal, terminal}
use Rattle.chart.specs.Cell.{fits_at}
use Rattle.packed.specs.Packed.{left_in, place_count, Used, is_nonterminal_in, symbol_in, fits_place}
use Rattle.packed.proofs.Fitting.{fits-nonterminal}
use Rattle.packed.proofs.Laws.{count-unused}
use Rattle.packed_fit.specs.Fit.{fit_size, fit_in, Asked, FitPut, AtPlace, AtRule, Positions, Told}
use Rattle.packed_fit.proofs.Entries.{put_then}

-- ---- one place

module _ (p w : List ℕ) (r q : ℕ) (t₀ : List ℕ) where
  -- a nonterminal fits no position
  pub place-node : (n : ℕ) (b : Bool) → length t₀ ≡ fit_size → b ≡ is_nonterminal_in p r q → b ≡ true → FitPut p w (AtPlace n r q) t₀ t₀
  place-node n b long e f = record {
    long = long;
    here = λ i s j l m x z. z ∙ fits-nonterminal p r q w i b e f ∙ rw (x.1, x.2);
    other = λ i s j l m x. refl;
  }

-- ---- all rules

zero-fit : (m i r q : ℕ) → fit_in (replicate m 0) i r q ≡ false
unfolding fit_in
zero-fit m i r q = ap (has q) (zeros-at m (max_rules * i + r)) ∙ has-empty q

-- nothing fits after the end of the input
past_fits : (w : List ℕ) (s : Symbol) (i : ℕ) → length w ≤ i → fits_place w s i ≡ false
unfolding fits_place fits_at
past_fits w (nonterminal k) i h = refl
past_fits w (terminal t) i h = rw (le-ltb i (length w) h)

-- a row with places is that of a rule
places-used : (p : List ℕ) (r q : ℕ) → q < place_count p r → left_in p r < 32
places-used p r q h = dite (dec_lt (left_in p r) 32) (λ l. l) (λ l. absurd (omega (arith, count-unused p r (omega arith))))

module _ (p w : List ℕ) (n : ℕ) where
  -- the places of the rules below r at n positions
  abbrev Below : ℕ → Asked
  Below r i s j = (i < n) × (s < r) × (j < place_count p s)

  -- the rules below r are written. The table has any number k of bytes, so that nothing computes
  pub record TableTo (k r : ℕ) (t : List ℕ) : Type 0 where
    pub put : FitPut p w (Below r) (replicate k 0) t

  pub table_step : (k r : ℕ) (t t' : List ℕ) → TableTo k r t → FitPut p w (AtRule n r (place_count p r)) t t' → TableTo k (r + 1) t'
  table_step k r t t' to put = record {
    put = put_then p w (Below r) (AtRule n r (place_count p r)) (Below (r + 1)) (replicate k 0) t t' to.put put
        (λ i s j x. dite (ℕ_discrete s r)
        (λ e. inr ((x.0, e, subst (λ (y : ℕ). j < place_count p y) e x.2), λ y. omega (arith, y.1)))
        (λ e. let d : s ≢ r = e in inl ((x.0, omega (arith, x.1), x.2), λ y. e y.1)))
        (λ i s j x. (x.0, omega (arith, x.1), x.2))
        (λ i s j x. (x.0, omega (arith, x.1), subst (λ (y : ℕ). j < place_count p y) (sym x.1) x.2));
  }

  pub table_done : (k rules r : ℕ) (t : List ℕ) → rules ≤ r → Used p rules → Positions (length w) n → TableTo k r t → Told p w t
  table_done k rules r t h used positions to = record { long = to.put.long; exact = λ i s q l m c. go i s q l m c (dec_lt i n) }
    where
      go : (i s q : ℕ) → i < max_input → s < max_rules → q < place_count p s → Dec (i < n) → fit_in t i s q ≡ fits_place w (symbol_in p s q) i
      go i s q l m c (yes d) =
          let b : s < rules = used s m (places-used p s q c) in
          to.put.here i s q l m (d, omega arith, c) (zero-fit k i s q)
      go i s q l m c (no d) =
          to.put.other i s q l m (λ x. d x.0) ∙ zero-fit k i s q
          ∙ sym (past_fits w (symbol_in p s q) i (positions.all i l (omega arith)))
