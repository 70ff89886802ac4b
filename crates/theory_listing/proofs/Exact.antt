-- The function `derivations` lists exactly the derivations, in rising order; that list is the only one. No listed row is empty or the
-- beginning of another one, and a smaller budget keeps the rows that are short enough. Assumes nothing.
use Prim.Native.Nat.{ℕ, ◌≤◌, ◌*◌}
use mathlib.Core.Bool.{true}
use mathlib.Core.List.Memᴰ
use mathlib.Core.List.{List, [], ◌∷◌, ◌++◌, Memᴰ, cons≢nil}
use mathlib.Core.Path.{◌≡◌, sym, ap, subst, ◌∙◌}
use lib.ListN.{length}
use native.Mathlib.Omega.{arith}
use borrow.Author.Tests.{leb-true, le-leb}
use Rattle.cfg.specs.Grammar.{Cfg, nonterminal}
use Rattle.cfg.specs.Tree.{Forest, nodes, code, Fits, fits_node}
use Rattle.cfg.specs.Derivation.{Derivation, Rising}
use Rattle.cfg.specs.Listing.{derivations}
use Rattle.theory_listing.specs.Budget.{filter, within_budget}
use Rattle.theory_listing.proofs.Rising.{pairs→rising}
pub use Rattle.theory_listing.proofs.Rising.{rising-unique}
use Rattle.theory_listing.proofs.Unique.{length-code, code-no-prefix}
use Rattle.theory_listing.proofs.Fit.{fit→fits, fit-plain, plain→fit-top}
use Rattle.theory_listing.proofs.Rows.{listed→tree, tree→listed}
use Rattle.theory_listing.proofs.Sorted.{listing-sorted}
use Rattle.theory_listing.proofs.Filter.{filter-cases, filter-member, pairs-filter}

pub listed→derivation : (G : Cfg) (b : ℕ) (w e : List ℕ) → Memᴰ e (derivations G b w) → Derivation G b w e
unfolding derivations
listed→derivation G b w e i =
    let t = listed→tree G b G.start [] w i in
    record { tree = t.tree; parse = (fit→fits t.fit, t.covers); plain = fit-plain t.fit; small = t.small; coded = t.coded }

pub derivation→listed : (G : Cfg) (b : ℕ) (w e : List ℕ) → Derivation G b w e → Memᴰ e (derivations G b w)
unfolding derivations
derivation→listed G b w e d =
    subst (λ l. Memᴰ e (derivations G b l)) d.parse.1
    (Memᴰ.cast (sym d.coded) (tree→listed G b G.start [] d.tree (plain→fit-top d.parse.0 d.plain) d.small))

pub derivations-rising : (G : Cfg) (b : ℕ) (w : List ℕ) → Rising (derivations G b w)
unfolding derivations
derivations-rising G b w = pairs→rising (listing-sorted G b _ w)

-- the code of a tree is not empty
pub code-not-empty : {G : Cfg} {k : ℕ} {t : Forest} → Fits G (nonterminal k ∷ []) t → code t ≡ [] → ⊥
unfolding code
code-not-empty (fits_node o f g) e = cons≢nil e

pub derivation-not-empty : (G : Cfg) (b : ℕ) (w : List ℕ) → Derivation G b w [] → ⊥
derivation-not-empty G b w d = code-not-empty d.parse.0 d.coded

pub listed-not-empty : (G : Cfg) (b : ℕ) (w : List ℕ) → Memᴰ [] (derivations G b w) → ⊥
listed-not-empty G b w i = derivation-not-empty G b w (listed→derivation G b w [] i)

pub derivation-no-prefix : (G : Cfg) (b : ℕ) (w d x : List ℕ) → Derivation G b w d → Derivation G b w (d ++ x) → x ≡ []
derivation-no-prefix G b w d x p q =
    code-no-prefix G x p.parse.0 q.parse.0 (p.parse.1 ∙ sym q.parse.1) (q.coded ∙ ap (λ l. l ++ x) (sym p.coded))

pub listed-no-prefix : (G : Cfg) (b : ℕ) (w d x : List ℕ) → Memᴰ d (derivations G b w) → Memᴰ (d ++ x) (derivations G b w)
    → x ≡ []
listed-no-prefix G b w d x i j = derivation-no-prefix G b w d x (listed→derivation G b w d i) (listed→derivation G b w (d ++ x) j)

-- a derivation has two numbers for each node, so its length says whether it is within a budget
pub derivation-length : (G : Cfg) (b : ℕ) (w e : List ℕ) → Derivation G b w e → length e ≤ 2 * b
derivation-length G b w e d =
    let c : length e ≡ 2 * nodes d.tree = ap length (sym d.coded) ∙ length-code d.tree in
    omega arith

pub derivation-budget : (G : Cfg) (b c : ℕ) (w e : List ℕ) → Derivation G c w e → length e ≤ 2 * b → Derivation G b w e
derivation-budget G b c w e d h =
    let n : length e ≡ 2 * nodes d.tree = ap length (sym d.coded) ∙ length-code d.tree in
    record { tree = d.tree; parse = d.parse; plain = d.plain; small = omega arith; coded = d.coded }

pub derivations-budget : (G : Cfg) (b c : ℕ) (w : List ℕ) → b ≤ c → derivations G b w ≡ filter (within_budget b) (derivations G c w)
unfolding derivations within_budget
derivations-budget G b c w h =
    rising-unique (derivations G b w) (filter (within_budget b) (derivations G c w)) (derivations-rising G b w)
    (pairs→rising (pairs-filter (within_budget b) (listing-sorted G c _ w)))
    (λ e. (λ i. kept e (listed→derivation G b w e i), λ i. found e (filter-cases (within_budget b) (derivations G c w) i)))
  where
    kept : (e : List ℕ) → Derivation G b w e → Memᴰ e (filter (within_budget b) (derivations G c w))
    kept e d =
        let n = derivation-length G b w e d in
        filter-member (within_budget b) (derivation→listed G c w e (derivation-budget G c b w e d (omega arith)))
        (le-leb (length e) (2 * b) n)

    found : (e : List ℕ) → Memᴰ e (derivations G c w) × (within_budget b e ≡ true) → Memᴰ e (derivations G b w)
    found e r =
        derivation→listed G b w e
        (derivation-budget G b c w e (listed→derivation G c w e r.0) (leb-true (length e) (2 * b) r.1))
