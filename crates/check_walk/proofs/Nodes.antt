-- A row that starts with a nonterminal is a node alone and a row after it. A node alone is its two numbers and the row below it.
-- Assumes nothing.
use Prim.Native.Nat.{ℕ, suc, ◌+◌, ◌*◌, ◌-◌, ◌≤◌, ◌<◌}
use mathlib.Core.Bool.{false}
use mathlib.Core.List.{List, [], ◌∷◌, ◌++◌, append-nil, append_assoc}
use mathlib.Core.Path.{◌≡◌, refl, sym, ap, ap₂, subst, ◌∙◌}
use native.Mathlib.Omega.{arith}
use lib.ListN.{length, get_or, drop, length-drop}
use lib.Seq.{slice, length-slice, drop-cons, drop-drop, drop-append_seam}
use Rattle.sets.specs.Set.{has, insert}
use Rattle.cfg.specs.Grammar.{Cfg, Symbol, nonterminal, Of}
use Rattle.cfg.specs.Tree.{Forest, end, node, yield, nodes, code, Fits, fits_end, fits_node}
use Rattle.cfg.specs.Derivation.{Superfluous}
use Rattle.chart.proofs.Slices.{slice-append, slice-split}
use Rattle.theory_listing.proofs.Unique.{length-code}
use Rattle.theory_enumeration.specs.Rows.{Free, SameSpan}
use Rattle.theory_enumeration.proofs.Free.{join-plain, join_free, first_plain, first-free, beside-plain, beside-free}
use Rattle.check_walk.specs.Walk.{Walked}
use Rattle.check_walk.proofs.Spans.{node-plain, node-free, below_plain, node-fresh, below_free}

pub at-two : (e : List ℕ) (i a b : ℕ) → suc i < length e → get_or e i 0 ≡ a → get_or e (i + 1) 0 ≡ b → drop i e ≡ a ∷ b ∷ drop (i + 2) e
at-two e i a b h p q =
    let j : suc i ≡ i + 1 = omega arith in
    let k : suc (suc i) ≡ i + 2 = omega arith in
    cc (drop-cons e i 0 (omega arith), drop-cons e (suc i) 0 h)

-- if a list continues at i with two numbers, they are at i and i + 1
two_at : (e x : List ℕ) (i a b : ℕ) → a ∷ b ∷ x ≡ drop i e
    → (suc i < length e) × (get_or e i 0 ≡ a) × (get_or e (i + 1) 0 ≡ b) × (x ≡ drop (i + 2) e)
two_at e x i a b h =
    let m : suc (suc (length x)) ≡ length e - i = ap length h ∙ length-drop i e in
    let p = at-two e i (get_or e i 0) (get_or e (i + 1) 0) (omega arith) refl refl in
    (omega arith, cc, cc, cc)

yield-alone : (r : ℕ) (below : Forest) → yield (node r below end) ≡ yield below
unfolding yield
yield-alone r below = append-nil (yield below)

code-alone : (r : ℕ) (below : Forest) (x : List ℕ) → code (node r below end) ++ x ≡ length (yield below) ∷ r ∷ (code below ++ x)
unfolding code
code-alone r below x = ap (λ (l : List ℕ). length (yield below) ∷ r ∷ (l ++ x)) (append-nil (code below))

pub code-first : (r : ℕ) (below rest : Forest) (x : List ℕ)
    → code (node r below rest) ++ x ≡ length (yield below) ∷ r ∷ (code below ++ (code rest ++ x))
unfolding code
code-first r below rest x = ap (λ (l : List ℕ). length (yield below) ∷ r ∷ l) (append_assoc (code below) (code rest) x)

-- what follows the code of a row
code-after : (e x : List ℕ) (t : Forest) (at next : ℕ) → next ≡ at + nodes t → code t ++ x ≡ drop (2 * at) e → x ≡ drop (2 * next) e
code-after e x t at next h d =
    let i : 2 * at + length (code t) ≡ 2 * next = omega (arith, length-code t) in
    sym (drop-append_seam (code t) x) ∙ ap (drop (length (code t))) d ∙ drop-drop (length (code t)) (2 * at) e
    ∙ ap (λ (y : ℕ). drop y e) i

-- the node that a row starts with, and the row after it
pub record Parted (G : Cfg) (w e : List ℕ) (n cover mask k : ℕ) (places : List Symbol) (at from to next : ℕ) : Type 0 where
  pub middle : ℕ
  pub early : at < n
  pub fitting : from + get_or e (2 * at) 0 ≤ to
  pub first : Walked G w e n cover mask (nonterminal k ∷ []) at from (from + get_or e (2 * at) 0) middle
  pub rest : Walked G w e n cover mask places middle (from + get_or e (2 * at) 0) to next

module _ {G : Cfg} {w e : List ℕ} {n cover mask k : ℕ} {places : List Symbol} where
  -- ---- a node alone, and a row after it

  module _ {at from mid to middle next : ℕ} (order : from ≤ mid) (rising : mid ≤ to) (known : to ≤ length w) where
    pub walk-node : Walked G w e n cover mask (nonterminal k ∷ []) at from mid middle
        → Walked G w e n cover mask places middle mid to next → Walked G w e n cover mask (nonterminal k ∷ places) at from to next
    unfolding yield nodes
    walk-node a b = go a.fit a.plain a.free a.covers a.coded a.ends
      where
        go : {forest : Forest} → Fits G (nonterminal k ∷ []) forest → ¬ Superfluous G forest → Free G cover mask forest
            → yield forest ≡ slice from mid w
            → code forest ++ drop (2 * middle) e ≡ drop (2 * at) e → middle ≡ at + nodes forest
            → Walked G w e n cover mask (nonterminal k ∷ places) at from to next
        go (fits_node {r = r} {below = below} o f fits_end) s z c d m =
            let y = b.ends in
            record {
              forest = node r below b.forest;
              fit = fits_node o f b.fit;
              plain = join-plain G r below b.forest s b.plain;
              free = join_free G r below b.forest cover mask z b.free;
              covers =
                  ap₂ ◌++◌ (sym (yield-alone r below) ∙ c) b.covers ∙ slice-append from mid to w order rising known;
              coded =
                  code-first r below b.forest (drop (2 * next) e)
                  ∙ ap (λ (l : List ℕ). length (yield below) ∷ r ∷ (code below ++ l)) b.coded
                  ∙ sym (code-alone r below (drop (2 * middle) e))
                  ∙ d;
              ends = omega arith;
              inside = b.inside;
            }

  module _ {at from to next : ℕ} (rising : from ≤ to) (known : to ≤ length w) where
    pub node-walk : Walked G w e n cover mask (nonterminal k ∷ places) at from to next → Parted G w e n cover mask k places at from to next
    unfolding yield nodes
    node-walk a = go a.fit a.plain a.free a.covers a.coded a.ends
      where
        go : {forest : Forest} → Fits G (nonterminal k ∷ places) forest → ¬ Superfluous G forest → Free G cover mask forest
            → yield forest ≡ slice from to w
            → code forest ++ drop (2 * next) e ≡ drop (2 * at) e → next ≡ at + nodes forest
            → Parted G w e n cover mask k places at from to next
        go (fits_node {r = r} {below = below} {rest = rest} o f g) s z c d m =
            let x = drop (2 * next) e in
            let middle : ℕ = at + suc (nodes below) in
            let v = slice-split from to w rising known (yield below) (yield rest) c in
            let u = two_at e (code below ++ (code rest ++ x)) (2 * at) (length (yield below)) r (sym (code-first r below rest x) ∙ d) in
            let i : from + length (yield below) ≡ from + get_or e (2 * at) 0 = ap (λ (y : ℕ). from + y) (sym u.1) in
            let whole : code (node r below end) ++ (code rest ++ x) ≡ drop (2 * at) e =
            code-alone r below (code rest ++ x) ∙ sym (code-first r below rest x) ∙ d in
            let after : code rest ++ x ≡ drop (2 * middle) e =
            code-after e (code rest ++ x) (node r below end) at middle (omega arith) whole in
            let small = a.inside in
            record {
              middle = middle;
              early = omega arith;
              fitting = omega (arith, v.0);
              first = record {
                forest = node r below end;
                fit = fits_node o f fits_end;
                plain = first_plain G r below rest s;
                free = first-free G r below rest cover mask z;
                covers = yield-alone r below ∙ v.1 ∙ ap (λ (y : ℕ). slice from y w) i;
                coded = ap (λ (l : List ℕ). code (node r below end) ++ l) (sym after) ∙ whole;
                ends = omega arith;
                inside = omega arith;
              };
              rest = record {
                forest = rest;
                fit = g;
                plain = beside-plain G r below rest s;
                free = beside-free G r below rest cover mask z;
                covers = v.2 ∙ ap (λ (y : ℕ). slice y to w) i;
                coded = after;
                ends = omega arith;
                inside = a.inside;
              };
            }

-- ---- a node alone: its two numbers, and the row below it

-- the rule of a node alone, and the row below it
pub record Opened (G : Cfg) (w e : List ℕ) (n own k at from to next : ℕ) : Type 0 where
  pub rule : ℕ
  pub of : Of G rule k
  pub early : at < n
  pub bytes : get_or e (2 * at) 0 ≡ to - from
  pub number : get_or e (2 * at + 1) 0 ≡ rule
  pub fresh : has k own ≡ false
  pub below : Walked G w e n (to - from) (insert k own) of.the.places (at + 1) from to next

module _ {G : Cfg} {w e : List ℕ} {n cover mask own k at from to next : ℕ} (span : SameSpan cover mask (to - from) own)
    (rising : from ≤ to) (known : to ≤ length w) where
  pub walk-open : to ≤ from + cover → 2 * n ≤ length e → Opened G w e n own k at from to next
      → Walked G w e n cover mask (nonterminal k ∷ []) at from to next
  unfolding nodes
  walk-open narrow long a =
      let r = a.rule in
      let b = a.below in
      let t = b.forest in
      let early = a.early in
      let m = b.ends in
      let width : length (yield t) ≡ to - from = ap length b.covers ∙ length-slice from to w known in
      let free : Free G (length (yield t)) (insert k own) t = rw width b.free in
      let same : SameSpan cover mask (length (yield t)) own = rw width span in
      let i : 2 * (at + 1) ≡ 2 * at + 2 = omega arith in
      record {
        forest = node r t end;
        fit = fits_node a.of b.fit fits_end;
        plain = node-plain G cover mask own k r a.of t b.plain free;
        free = node-free G cover mask own k r a.of t same (omega arith) a.fresh free;
        covers = yield-alone r t ∙ b.covers;
        coded =
            code-alone r t (drop (2 * next) e)
            ∙ ap (λ (v : List ℕ). length (yield t) ∷ r ∷ v) (b.coded ∙ ap (λ (v : ℕ). drop v e) i)
            ∙ sym (at-two e (2 * at) (length (yield t)) r (omega arith) (a.bytes ∙ sym width) a.number);
        ends = omega arith;
        inside = b.inside;
      }

  pub open-walk : Walked G w e n cover mask (nonterminal k ∷ []) at from to next → Opened G w e n own k at from to next
  unfolding yield nodes
  open-walk a = go a.fit a.plain a.free a.covers a.coded a.ends
    where
      go : {forest : Forest} → Fits G (nonterminal k ∷ []) forest → ¬ Superfluous G forest → Free G cover mask forest
          → yield forest ≡ slice from to w
          → code forest ++ drop (2 * next) e ≡ drop (2 * at) e → next ≡ at + nodes forest → Opened G w e n own k at from to next
      go (fits_node {r = r} {below = below} o f fits_end) s z c d m =
          let q : yield below ≡ slice from to w = sym (yield-alone r below) ∙ c in
          let width : length (yield below) ≡ to - from = ap length q ∙ length-slice from to w known in
          let same : SameSpan cover mask (length (yield below)) own = rw width span in
          let x = drop (2 * next) e in
          let u = two_at e (code below ++ x) (2 * at) (length (yield below)) r (sym (code-alone r below x) ∙ d) in
          let i : 2 * at + 2 ≡ 2 * (at + 1) = omega arith in
          let small = a.inside in
          record {
            rule = r;
            of = o;
            early = omega arith;
            bytes = u.1 ∙ width;
            number = u.2;
            fresh = node-fresh G cover mask own k r o below same s z;
            below = record {
              forest = below;
              fit = f;
              plain = below_plain G cover mask own k r o below same s z;
              free = subst (λ (y : ℕ). Free G y (insert k own) below) width (below_free G cover mask own k r o below same s z);
              covers = q;
              coded = u.3 ∙ ap (λ (y : ℕ). drop y e) i;
              ends = omega arith;
              inside = a.inside;
            };
          }
