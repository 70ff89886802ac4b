-- The flags of a rule at one start, from its last place down, by the words of the cell. Assumes nothing.
use Prim.Native.Nat.{ℕ, suc, ◌+◌, ◌≤◌, ◌<◌}
use mathlib.Core.Bool.{Bool, true, false, cond, ◌&&◌, ◌||◌, or-true}
use mathlib.Core.List.{List}
use mathlib.Core.Logic.{◌≢◌, ◌⊎◌, inl, inr, ⊎_elim, dite}
use mathlib.Core.Path.{◌≡◌, refl, sym, ap, ◌∙◌, subst}
use native.Mathlib.Decide.{dec_lt, ℕ_discrete}
use native.Mathlib.Numerals.{add-one}
use native.Mathlib.Omega.{arith}
use lib.Dec.{eqb}
use Rattle.laws.proofs.Bools.{and_parts, true-false, bool-ext}
use Rattle.sets.specs.Set.{has, insert}
use Rattle.sets.proofs.Laws.{has-empty}
use Rattle.cfg.specs.Grammar.{Symbol, nonterminal, terminal}
use Rattle.chart.specs.Cell.{Fit, cuts}
use Rattle.packed.specs.Packed.{place_count, symbol_in}
use Rattle.packed.proofs.Laws.{places-step, places-end}
use Rattle.fill_rule.specs.Flags.{Sets, tail}
use Rattle.fill_rule.specs.Passes.{place_cuts, Words}
use Rattle.fill_rule.proofs.Bits.{has-if-same, has-if-other}
use Rattle.fill_rule.proofs.First.{FirstCut, first_inner, first-empty, first-whole, cuts_first, first-cuts}

or_parts : (a b : Bool) → (a || b) ≡ true → (a ≡ true) ⊎ (b ≡ true)
or_parts true b e = inl refl
or_parts false b e = inr e

module _ (fit : Fit) (sets : Sets) (p : List ℕ) (r i n empty own inner last : ℕ)
    (words : Words fit sets p r i n empty own inner last) (order : i ≤ n) where
  -- the flags at the end of the span, for the places after q
  last-cuts : (q : ℕ) → q < place_count p r → has (q + 1) last ≡ true → (i < n) × (cuts fit sets (tail p r (suc q)) n n ≡ true)
  last-cuts q h e = dite (dec_lt i n)
      (λ l. (l, sym (words.after l (suc q) h) ∙ ap (λ (x : ℕ). has x last) (sym (add-one q)) ∙ e))
      (λ l. absurd (true-false e (ap (has (q + 1)) (words.none (omega arith)) ∙ has-empty (q + 1))))

  module _ (q v : ℕ) (used : q < place_count p r) (behind : has (q + 1) v ≡ cuts fit sets (tail p r (suc q)) i n) where
    to : (s : Symbol) → symbol_in p r q ≡ s → place_cuts s q empty own inner last v ≡ true
        → FirstCut fit sets n (symbol_in p r q) (tail p r (suc q)) i
    to (terminal t) e h = first_inner ((words.inside q used).0 h)
    to (nonterminal k) e h = ⊎_elim (λ x. first_inner ((words.inside q used).0 x)) (λ x. ⊎_elim by-empty by_whole
        (or_parts (has k empty && has (q + 1) v) (has k own && has (q + 1) last) x))
        (or_parts (has q inner) ((has k empty && has (q + 1) v) || (has k own && has (q + 1) last)) h)
      where
        by-empty : (has k empty && has (q + 1) v) ≡ true → FirstCut fit sets n (symbol_in p r q) (tail p r (suc q)) i
        by-empty x =
            let y = and_parts (has k empty) (has (q + 1) v) x in
            first-empty k e (ap (has k) words.start ∙ y.0) (sym behind ∙ y.1)

        by_whole : (has k own && has (q + 1) last) ≡ true → FirstCut fit sets n (symbol_in p r q) (tail p r (suc q)) i
        by_whole x =
            let y = and_parts (has k own) (has (q + 1) last) x in
            let z = last-cuts q used y.1 in
            first-whole k e z.0 (ap (has k) words.whole ∙ y.0) z.1

    -- an inner cut, whatever the symbol is
    by-inner : (s : Symbol) → has q inner ≡ true → place_cuts s q empty own inner last v ≡ true
    by-inner (terminal t) h = h
    by-inner (nonterminal k) h = rw h

    from : FirstCut fit sets n (symbol_in p r q) (tail p r (suc q)) i → place_cuts (symbol_in p r q) q empty own inner last v ≡ true
    from (first_inner c) = by-inner (symbol_in p r q) ((words.inside q used).1 c)
    from (first-empty k e h c) =
        let x : has k empty ≡ true = ap (has k) (sym words.start) ∙ h in
        let y : has (q + 1) v ≡ true = behind ∙ c in
        rw (e, x, y, or-true (has q inner))
    from (first-whole k e l h c) =
        let x : has k own ≡ true = ap (has k) (sym words.whole) ∙ h in
        let y : has (q + 1) last ≡ true = ap (λ (z : ℕ). has z last) (add-one q) ∙ words.after l (suc q) used ∙ c in
        rw (e, x, y, or-true (has k empty && has (q + 1) v), or-true (has q inner))

    -- the words say whether the places from q on cut the span
    pub place-cuts : place_cuts (symbol_in p r q) q empty own inner last v ≡ cuts fit sets (tail p r q) i n
    place-cuts = bool-ext (place_cuts (symbol_in p r q) q empty own inner last v) (cuts fit sets (tail p r q) i n)
        (λ h. ap (λ (l : List Symbol). cuts fit sets l i n) (places-step p r q used)
        ∙ first-cuts fit sets n (symbol_in p r q) (tail p r (suc q)) i order (to (symbol_in p r q) refl h))
        (λ h. from (cuts_first fit sets n (symbol_in p r q) (tail p r (suc q)) i order
        (ap (λ (l : List Symbol). cuts fit sets l i n) (sym (places-step p r q used)) ∙ h)))

-- ---- from the last place down

module _ (p : List ℕ) (r : ℕ) (ended : Bool) (empty own inner last : ℕ) where
  -- v is right from place q on, and has no place below q
  pub record MaskFrom (q v : ℕ) : Type 0 where
    pub done : (fit : Fit) (sets : Sets) (i n : ℕ) → i ≤ n → ended ≡ eqb i n → Words fit sets p r i n empty own inner last
        → (j : ℕ) → q ≤ j → j ≤ place_count p r → has j v ≡ cuts fit sets (tail p r j) i n
    pub rest : (j : ℕ) → j < q → has j v ≡ false

  pub mask-from-start : (q v : ℕ) → q ≡ place_count p r → v ≡ cond ended (insert q 0) 0 → MaskFrom q v
  unfolding cuts
  mask-from-start q v c e = record {
    done = λ fit sets i n order end words j l m.
        let d : j ≡ q = omega arith in
        ap (λ (x : ℕ). has x v) d ∙ ap (has q) e ∙ has-if-same q 0 ended (has-empty q) ∙ end
        ∙ sym (ap (λ (l : List Symbol). cuts fit sets l i n) (places-end p r j (omega arith)));
    rest = λ j l. ap (has j) e ∙ has-if-other q 0 ended j (omega arith) ∙ has-empty j;
  }

  pub mask-from-step : (q' q v x : ℕ) (b : Bool) → q' ≡ suc q → q < place_count p r
      → b ≡ place_cuts (symbol_in p r q) q empty own inner last v
      → x ≡ cond b (insert q v) v → MaskFrom q' v → MaskFrom q x
  mask-from-step q' q v x b s h e f mask = record { done = done; rest = rest }
    where
      other : (j : ℕ) → j ≢ q → has j x ≡ has j v
      other j d = ap (has j) f ∙ has-if-other q v b j d

      done : (fit : Fit) (sets : Sets) (i n : ℕ) → i ≤ n → ended ≡ eqb i n → Words fit sets p r i n empty own inner last
          → (j : ℕ) → q ≤ j → j ≤ place_count p r → has j x ≡ cuts fit sets (tail p r j) i n
      done fit sets i n order end words j l m = dite (ℕ_discrete j q)
          (λ d. subst (λ (y : ℕ). has y x ≡ cuts fit sets (tail p r y) i n) (sym d)
          (ap (has q) f ∙ has-if-same q v b (mask.rest q (omega arith)) ∙ e
          ∙ place-cuts fit sets p r i n empty own inner last words order q v h
          (ap (λ (y : ℕ). has y v) (add-one q) ∙ mask.done fit sets i n order end words (suc q) (omega arith) h)))
          (λ d. let u : j ≢ q = d in other j d ∙ mask.done fit sets i n order end words j (omega arith) m)

      rest : (j : ℕ) → j < q → has j x ≡ false
      rest j l = other j (omega arith) ∙ mask.rest j (omega arith)
