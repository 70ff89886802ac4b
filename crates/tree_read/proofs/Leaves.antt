-- Places with only terminals: a row of them has no nodes and one byte each. If they follow a node, then what comes after the node, with the
-- same end, comes after the row. Assumes nothing.
use Prim.Native.Nat.{ℕ, zero, suc, ◌+◌, ◌-◌, ◌≤◌}
use mathlib.Core.List.{List, [], ◌∷◌, ◌++◌, append-nil}
use mathlib.Core.Path.{◌≡◌, refl, sym, ap, subst, ◌∙◌}
use native.Mathlib.Omega.{arith}
use lib.ListN.{length}
use Rattle.cfg.specs.Grammar.{Cfg, Symbol, nonterminal, terminal, Terminal}
use Rattle.cfg.specs.Derivation.{◌≺◌}
use Rattle.cfg.specs.Tree.{Forest, yield, nodes, code, Fits, fits_leaf, fits_end}
use Rattle.theory_listing.proofs.Unique.{length-code}
use Rattle.theory_enumeration.specs.Rows.{Row, Tree, Share}
use Rattle.theory_enumeration.specs.Order.{Coded, Min, After, Last}
use Rattle.theory_enumeration.proofs.Rows.{row-length, row-budget}
use Rattle.theory_enumeration.proofs.Next.{end-last, row-next-child, row_last}
use Rattle.theory_choices.specs.Opened.{OpenedRow}
use Rattle.packed.specs.Packed.{place_count, terminal_in, places_from}
use Rattle.packed.proofs.Fitting.{symbol-terminal}
use Rattle.table_suffix.specs.Within.{tail_in}
use Rattle.tree_read.specs.Looked.{LeavesIn}

-- ---- stretches of such places

pub leaves_none : (p : List ℕ) (r from : ℕ) → LeavesIn p r from from
leaves_none p r from q h l = absurd (omega arith)

pub leaves_all : (p : List ℕ) (r : ℕ) {from q m : ℕ} → LeavesIn p r from q → m ≤ q → LeavesIn p r from m
leaves_all p r L h s u v = L s u (omega arith)

-- ---- a row of such places

-- every forest of the places has no nodes and n bytes
abbrev pub NoNodes : Cfg → List Symbol → ℕ → Type 0
NoNodes G places n = (f : Forest) → Fits G places f → (code f ≡ []) × (length (yield f) ≡ n)

-- a terminal before such places
leaf_first : {G : Cfg} {places : List Symbol} {n : ℕ} (t : Terminal) → NoNodes G places n → NoNodes G (terminal t ∷ places) (suc n)
unfolding code yield
leaf_first t N f (fits_leaf {rest = rest} m F) = let (c, l) = N rest F in (c, ap suc l)

no-places : {G : Cfg} → NoNodes G [] 0
unfolding code yield
no-places f fits_end = (refl, refl)

leaves-fit : {G : Cfg} (p : List ℕ) (r n q : ℕ) → LeavesIn p r q (q + n) → NoNodes G (places_from p r q n) n
unfolding places_from
leaves-fit p r zero q L = no-places
leaves-fit {G} p r (suc n) q L =
    subst (λ (s : Symbol). NoNodes G (s ∷ places_from p r (suc q) n) (suc n))
    (sym (symbol-terminal p r q (L q (omega arith) (omega arith))))
    (leaf_first (terminal_in p r q) (leaves-fit p r n (suc q) (λ s u v. L s (omega arith) (omega arith))))

pub leaves-behind : {G : Cfg} (p : List ℕ) (r q : ℕ) → LeavesIn p r q (place_count p r) → NoNodes G (tail_in p r q) (place_count p r - q)
leaves-behind p r q L = leaves-fit p r (place_count p r - q) q (λ s u v. L s u (omega arith))

module _ {G : Cfg} {w : List ℕ} {cover mask k : ℕ} {places : List Symbol} {a j budget b : ℕ} {f x y : Forest} {m : ℕ} (known : j ≤ length w)
    (N : NoNodes G places m) (o : OpenedRow G w cover mask k places a j budget f b x y) where
  -- a row of the places has no code, and its start is known
  leaves-row : {c share : ℕ} {t : Forest} → Row G w cover mask places c j share t → (code t ≡ []) × (j - c ≡ m)
  leaves-row {c} {t = t} R = let (e, n) = N t R.fit in (e, omega (arith, row-length G w known R))

  -- it is the first row of the places
  leaves-first : {c share : ℕ} → c ≡ b → Min (Row G w cover mask places c j share) []
  leaves-first {c} {share} e =
      let d = (leaves-row o.others).0 in
      let n : nodes y ≡ 0 = omega (arith, ap length d, length-code y) in
      record {
        found = record {
          forest = y;
          member = subst (λ (z : ℕ). Row G w cover mask places z j share y) (sym e)
              (row-budget G w o.others (omega arith));
          coded = d;
        };
        least = λ t R h. go (code t) h;
      }
    where
      go : (d : List ℕ) → d ≺ [] → ⊥
      go [] h = elim h [ ]
      go (a' ∷ d) h = elim h [ ]

  code_here : code x ++ code y ≡ code f
  code_here = sym o.coded

  whole : Share G w cover mask k places a j budget (b - a) budget
  whole = record { within = omega arith; enough = λ u v T R. T.small }

  at_end : b ≡ a + (b - a)
  at_end = let h = o.rising in omega arith

  child-coded : Coded (Tree G w cover mask k a (a + (b - a)) budget) (code x)
  child-coded = record {
    forest = x;
    member = subst (λ (z : ℕ). Tree G w cover mask k a z budget x) at_end o.child;
    coded = refl;
  }

  rest-coded : Coded (Row G w cover mask places (a + (b - a)) j (budget - nodes x)) (code y)
  rest-coded = record {
    forest = y;
    member = subst (λ (z : ℕ). Row G w cover mask places z j (budget - nodes x) y) at_end o.others;
    coded = refl;
  }

  rest-last : Last (Row G w cover mask places (a + (b - a)) j (budget - nodes x)) (code y)
  rest-last = subst (Last (Row G w cover mask places (a + (b - a)) j (budget - nodes x)))
      (sym (leaves-row o.others).0) (end-last _)

  -- the node moves
  pub leaves-move : (e : List ℕ) → After (Tree G w cover mask k a b budget) (code x) e
      → After (Row G w cover mask (nonterminal k ∷ places) a j budget) (code f) e
  leaves-move e A =
      let h = o.rising in
      let l = o.inside in
      let t = A.found.forest in
      subst (λ (c : List ℕ). After (Row G w cover mask (nonterminal k ∷ places) a j budget) c e) code_here
      (subst (After (Row G w cover mask (nonterminal k ∷ places) a j budget) (code x ++ code y)) (append-nil e)
      (row-next-child G w cover mask a j budget known places (omega arith) k (b - a) budget (nodes x) (omega arith)
      whole child-coded (length-code x) rest-coded rest-last (nodes t)
      (subst (λ (z : ℕ). After (Tree G w cover mask k a z budget) (code x) e) at_end A)
      (sym (ap length A.found.coded) ∙ length-code t) (leaves-first (sym at_end))))

  -- the node is last
  pub leaves-end : Last (Tree G w cover mask k a b budget) (code x)
      → Last (Row G w cover mask (nonterminal k ∷ places) a j budget) (code f)
  leaves-end A =
      let h = o.rising in
      let l = o.inside in
      subst (Last (Row G w cover mask (nonterminal k ∷ places) a j budget)) code_here
      (row_last G w cover mask a j budget known places (omega arith) k (b - a) budget (nodes x) (omega arith)
      whole child-coded (length-code x) rest-coded rest-last
      (subst (λ (z : ℕ). Last (Tree G w cover mask k a z budget) (code x)) at_end A)
      (λ c u v s t T R. omega (arith, (leaves-row R).1, (leaves-row o.others).1)))
