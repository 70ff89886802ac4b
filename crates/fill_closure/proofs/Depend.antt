-- On which part of the cell's set a rule's flags depend: only on the nonterminals in places after which all can be empty. And a rule
-- without inner cuts has no flags if the set has none of these. Assumes nothing.
use Prim.Native.Nat.{ℕ, zero, suc, ◌+◌, ◌-◌, ◌^◌, ◌≤◌, ◌<◌}
use mathlib.Core.Bool.{true, false}
use mathlib.Core.List.{List}
use mathlib.Core.Logic.{dite}
use mathlib.Core.Path.{◌≡◌, sym, ap, ◌∙◌}
use native.Mathlib.Decide.{dec_lt}
use native.Mathlib.Numerals.{add-one}
use native.Mathlib.Omega.{arith}
use Rattle.laws.proofs.Bools.{true-false, bool-ext}
use Rattle.sets.specs.Set.{has}
use Rattle.sets.proofs.Laws.{has-empty, has-high}
use Rattle.cfg.specs.Grammar.{Symbol, nonterminal}
use Rattle.chart.specs.Cell.{Fit, cuts}
use Rattle.packed.specs.Packed.{place_count, symbol_in}
use Rattle.packed.proofs.Laws.{places-step}
use Rattle.fill_rule.specs.Flags.{Sets, tail, Cutting, owned}
use Rattle.fill_rule.proofs.First.{FirstCut, first_inner, first-empty, first-whole, cuts_first, first-cuts, none-cuts}
use Rattle.fill_rule.proofs.Owned.{owned-here, owned-end, cuts-owned, inner-to, inner-from}
use Rattle.fill_closure.specs.Looks.{RuleGiven, Agrees, ExactFlags}

module _ (fit : Fit) (sets : Sets) (p : List ℕ) (r i n start inside last kinds : ℕ) (order : i < n)
    (given : RuleGiven fit sets p r i n start inside last kinds) where
  -- a nonterminal that covers the whole span before places that cut the empty one is one of the kinds
  whole-kind : (x q k : ℕ) → x < 2 ^ 32 → q < place_count p r → symbol_in p r q ≡ nonterminal k → has k (owned sets i n x i n) ≡ true
      → cuts fit (owned sets i n x) (tail p r (suc q)) n n ≡ true → (has k kinds ≡ true) × (has k x ≡ true)
  whole-kind x q k small used e h c = (given.depends.all q k used e low behind, here)
    where
      here : has k x ≡ true
      here = ap (has k) (sym (owned-here sets i n x)) ∙ h

      behind : has (q + 1) last ≡ true
      behind = ap (λ (y : ℕ). has y last) (add-one q) ∙ given.after (suc q) used
          ∙ sym (cuts-owned fit sets i n x n order (omega arith) (tail p r (suc q))) ∙ c

      low : k < 32
      low = dite (dec_lt k 32) (λ l. l) (λ l. absurd (true-false here (has-high k x small (omega arith))))

  split : (x q : ℕ) → q < place_count p r → cuts fit (owned sets i n x) (tail p r q) i n ≡ true
      → FirstCut fit (owned sets i n x) n (symbol_in p r q) (tail p r (suc q)) i
  split x q used c = cuts_first fit (owned sets i n x) n (symbol_in p r q) (tail p r (suc q)) i (omega arith)
      (ap (λ (l : List Symbol). cuts fit (owned sets i n x) l i n) (sym (places-step p r q used)) ∙ c)

  join : (x q : ℕ) → q < place_count p r → FirstCut fit (owned sets i n x) n (symbol_in p r q) (tail p r (suc q)) i
      → cuts fit (owned sets i n x) (tail p r q) i n ≡ true
  join x q used c = ap (λ (l : List Symbol). cuts fit (owned sets i n x) l i n) (places-step p r q used)
      ∙ first-cuts fit (owned sets i n x) n (symbol_in p r q) (tail p r (suc q)) i (omega arith) c

  -- the empty span at i is not the cell
  start-same : (x y k : ℕ) → has k (owned sets i n x i i) ≡ true → has k (owned sets i n y i i) ≡ true
  start-same x y k h = ap (has k) (owned-end sets i n y i i (omega arith) ∙ sym (owned-end sets i n x i i (omega arith))) ∙ h

  module _ (x y : ℕ) (small : x < 2 ^ 32) (more : (k : ℕ) → has k kinds ≡ true → has k x ≡ true → has k y ≡ true) where
    -- d places are left from q on
    carry : (d q : ℕ) → d + q ≡ place_count p r → cuts fit (owned sets i n x) (tail p r q) i n ≡ true
        → cuts fit (owned sets i n y) (tail p r q) i n ≡ true
    carry zero q e c = absurd (true-false c (none-cuts fit (owned sets i n x) p r q i n (omega arith) order))
    carry (suc d) q e c = join y q used (go (split x q used c) (carry d (suc q) (omega arith)))
      where
        used : q < place_count p r
        used = omega arith

        go : FirstCut fit (owned sets i n x) n (symbol_in p r q) (tail p r (suc q)) i
            → (cuts fit (owned sets i n x) (tail p r (suc q)) i n ≡ true → cuts fit (owned sets i n y) (tail p r (suc q)) i n ≡ true)
            → FirstCut fit (owned sets i n y) n (symbol_in p r q) (tail p r (suc q)) i
        go (first_inner a) rest = first_inner (inner-to fit sets i n y (symbol_in p r q) (tail p r (suc q))
            (inner-from fit sets i n x (symbol_in p r q) (tail p r (suc q)) a))
        go (first-empty k f h b) rest = first-empty k f (start-same x y k h) (rest b)
        go (first-whole k f l h b) rest =
            let u = whole-kind x q k small used f h b in
            first-whole k f l (ap (has k) (owned-here sets i n y) ∙ more k u.0 u.1)
            (cuts-owned fit sets i n y n order (omega arith) (tail p r (suc q))
            ∙ sym (cuts-owned fit sets i n x n order (omega arith) (tail p r (suc q))) ∙ b)

  left : (q : ℕ) → q ≤ place_count p r → (d : ℕ) × (d + q ≡ place_count p r)
  left q l = (place_count p r - q, omega arith)

  -- flags that are right for one set are right for each that agrees
  pub exact-on : (own made v : ℕ) → Agrees kinds made own → Cutting fit (owned sets i n own) p r i n v
      → ExactFlags fit sets p r i n kinds made v
  exact-on own made v a cut x b q l =
      let (d, e) = left q l in
      cut q l ∙ bool-ext (cuts fit (owned sets i n own) (tail p r q) i n) (cuts fit (owned sets i n x) (tail p r q) i n)
      (carry own x a.0 (λ k m h. b.1 k m ∙ sym (a.1 k m) ∙ h) d q e)
      (carry x own b.0 (λ k m h. a.1 k m ∙ sym (b.1 k m) ∙ h) d q e)

  -- ---- no flags

  module _ (none : inside ≡ 0) (x : ℕ) (small : x < 2 ^ 32) (apart : (k : ℕ) → has k kinds ≡ true → has k x ≡ false) where
    never : (d q : ℕ) → d + q ≡ place_count p r → cuts fit (owned sets i n x) (tail p r q) i n ≡ true → ⊥
    never zero q e c = true-false c (none-cuts fit (owned sets i n x) p r q i n (omega arith) order)
    never (suc d) q e c = go (split x q used c) (never d (suc q) (omega arith))
      where
        used : q < place_count p r
        used = omega arith

        go : FirstCut fit (owned sets i n x) n (symbol_in p r q) (tail p r (suc q)) i
            → (cuts fit (owned sets i n x) (tail p r (suc q)) i n ≡ true → ⊥) → ⊥
        go (first_inner a) rest = true-false ((given.begins q used).1 (inner-from fit sets i n x (symbol_in p r q) (tail p r (suc q)) a))
            (ap (has q) none ∙ has-empty q)
        go (first-empty k f h b) rest = rest b
        go (first-whole k f l h b) rest =
            let u = whole-kind x q k small used f h b in
            true-false u.1 (apart k u.0)

    pub no-flags : Cutting fit (owned sets i n x) p r i n 0
    no-flags q l =
        let (d, e) = left q l in
        bool-ext (has q 0) (cuts fit (owned sets i n x) (tail p r q) i n)
        (λ h. absurd (true-false h (has-empty q))) (λ h. absurd (never d q e h))
