-- The members of a listing are codes of rows. For the items of places and what comes after them, a member is the code of a row that fits
-- the places, followed by a member for what comes after; and conversely. For one node the members are exactly the codes of the trees.
-- Assumes nothing.
use Prim.Native.Nat.{ℕ, zero, suc, ◌+◌, ◌-◌, ◌≤◌, ◌<◌}
use mathlib.Core.Bool.{true, false}
use mathlib.Core.List.Memᴰ
use mathlib.Core.List.{List, [], ◌∷◌, ◌++◌, append-nil, append_assoc, Memᴰ}
use mathlib.Core.Path.{◌≡◌, refl, sym, ap, ap₂, subst, ◌∙◌}
use lib.ListN.{length, take, drop, take-append-drop}
use lib.Seq.{length-take-le}
use native.Mathlib.Omega.{arith}
use Rattle.cfg.specs.Grammar.{Cfg, Symbol, nonterminal, terminal, Terminal, fits, Of}
use Rattle.cfg.specs.Tree.{Forest, end, leaf, node, yield, nodes, code}
use Rattle.cfg.specs.Listing.{Span, among, Item, find, resume, items, listing}
use Rattle.theory_listing.proofs.Fit.{span, Fit, fit-end, fit-leaf, fit-node}
use Rattle.theory_listing.proofs.Steps.{listing-eat, listing-resume, listing-none-cases, listing-none-member, listing-resume-cases}
use Rattle.theory_listing.proofs.Steps.{listing-eat-cases, Found, listing-find-cases, listing-find-member}
use Rattle.theory_listing.proofs.Members.{when-member}

-- e is the code of a row for the places over u, followed by a member for todo over v, with b nodes in all
pub record RowFirst (G : Cfg) (b : ℕ) (above : List Span) (places : List Symbol) (v : List ℕ) (todo : List Item) (u e : List ℕ)
    : Type 0 where
  pub row : Forest
  pub fit : Fit G above places row
  pub covers : yield row ≡ u
  pub left : ℕ
  pub spent : nodes row + left ≡ b
  pub rest : List ℕ
  pub coded : e ≡ code row ++ rest
  pub listed : Memᴰ rest (listing G left todo v)

-- a leaf before a row
pub leaf_first : (G : Cfg) (b : ℕ) (above : List Span) (t : Terminal) (places : List Symbol) (v : List ℕ) (todo : List Item)
    (m : ℕ) (u w e : List ℕ) → w ≡ m ∷ u → fits t m ≡ true → RowFirst G b above places v todo u e
    → RowFirst G b above (terminal t ∷ places) v todo w e
unfolding yield nodes code
leaf_first G b above t places v todo m u w e q h r = record {
  row = leaf m r.row;
  fit = fit-leaf h r.fit;
  covers = ap (λ l. m ∷ l) r.covers ∙ sym q;
  left = r.left;
  spent = r.spent;
  rest = r.rest;
  coded = r.coded;
  listed = r.listed;
}

-- a node before a row: its own row over the first c bytes, then the row over the others
pub node-first : (G : Cfg) (b k c n : ℕ) (above : List Span) (places : List Symbol) (v : List ℕ) (todo next : List Item)
    (u d e : List ℕ) (o : Of G n k) → among k c above ≡ false → c ≤ length u → e ≡ c ∷ n ∷ d
    → (r : RowFirst G b (span k c ∷ above) o.the.places (drop c u) next (take c u) d)
    → RowFirst G r.left above places v todo (drop c u) r.rest
    → RowFirst G (suc b) above (nonterminal k ∷ places) v todo u e
unfolding yield nodes code
node-first G b k c n above places v todo next u d e o new short q r s =
    let width : length (yield r.row) ≡ c = ap length r.covers ∙ length-take-le c u short in
    let below = subst (λ x. Fit G (span k x ∷ above) o.the.places r.row) (sym width) r.fit in
    let numbers : d ≡ (code r.row ++ code s.row) ++ s.rest =
    r.coded ∙ ap (λ x. code r.row ++ x) s.coded ∙ sym (append_assoc (code r.row) (code s.row) s.rest) in
    record {
      row = node n r.row s.row;
      fit = fit-node o (subst (λ x. among k x above ≡ false) (sym width) new) below s.fit;
      covers = ap₂ ◌++◌ r.covers s.covers ∙ take-append-drop c u;
      left = s.left;
      spent = omega arith;
      rest = s.rest;
      coded = q ∙ ap₂ (λ x y. x ∷ n ∷ y) (sym width) numbers;
      listed = s.listed;
    }

-- with b nodes, every member for the items of places and what comes after them starts with the code of a row for the places
abbrev pub StartWithRows : Cfg → ℕ → Type 0
StartWithRows G b = (above : List Span) (places : List Symbol) (v : List ℕ) (todo : List Item) (u e : List ℕ)
    → Memᴰ e (listing G b (items above places ++ resume v ∷ todo) u) → RowFirst G b above places v todo u e

pub start-with-rows : (G : Cfg) (b : ℕ) → ((c : ℕ) → c < b → StartWithRows G c) → StartWithRows G b
unfolding items yield code nodes
start-with-rows G b fewer above [] v todo u e i =
    let r = listing-resume-cases G b v todo u i in
    record { row = end; fit = fit-end; covers = sym r.0; left = b; spent = omega arith; rest = e; coded = refl; listed = r.1 }
start-with-rows G b fewer above (terminal t ∷ places) v todo u e i =
    let x = listing-eat-cases G b t (items above places ++ resume v ∷ todo) u i in
    leaf_first G b above t places v todo x.first x.others u e x.bytes x.fits
    (start-with-rows G b fewer above places v todo x.others e x.listed)
start-with-rows G b fewer above (nonterminal k ∷ places) v todo u e i =
    let next : List Item = items above places ++ resume v ∷ todo in
    let x = listing-find-cases G b k above next u i in
    let q = x.spent in
    let c = x.cover in
    let r = fewer x.left (omega arith) (span k c ∷ above) x.o.the.places (drop c u) next (take c u) x.rest x.listed in
    let s = fewer r.left (omega arith) above places v todo (drop c u) r.rest r.listed in
    subst (λ n. RowFirst G n above (nonterminal k ∷ places) v todo u e) (sym q)
    (node-first G x.left k c x.number above places v todo next u x.rest e x.o x.fresh x.covers x.coded r s)

pub listed→row : (G : Cfg) (f b : ℕ) → b ≤ f → StartWithRows G b
listed→row G zero b h = start-with-rows G b (λ c q. absurd (omega arith))
listed→row G (suc f) b h = start-with-rows G b (λ c q. listed→row G f c (omega arith))

pub row→listed : (G : Cfg) {above : List Span} {places : List Symbol} {t : Forest} (b left : ℕ) (v : List ℕ) (todo : List Item) (e : List ℕ)
    → Fit G above places t → nodes t + left ≡ b → Memᴰ e (listing G left todo v)
    → Memᴰ (code t ++ e) (listing G b (items above places ++ resume v ∷ todo) (yield t))
unfolding items yield code nodes
row→listed G b left v todo e fit-end n i =
    let q : left ≡ b = omega arith in
    subst (Memᴰ e) (sym (listing-resume G b v todo)) (subst (λ x. Memᴰ e (listing G x todo v)) q i)
row→listed G b left v todo e (fit-leaf {above} {t} {m} {places} {rest} h f) n i =
    subst (Memᴰ (code rest ++ e)) (sym (listing-eat G b t (items above places ++ resume v ∷ todo) m (yield rest)))
    (when-member (fits t m) (λ _. listing G b (items above places ++ resume v ∷ todo) (yield rest)) h (row→listed G b left v todo e f n i))
row→listed G zero left v todo e (fit-node o h f g) n i = absurd (omega arith)
row→listed G (suc b) left v todo e (fit-node {above} {k} {r} {places} {below} {rest} o h f g) n i =
    Memᴰ.cast (ap (λ x. length (yield below) ∷ r ∷ x) (append_assoc (code below) (code rest) e))
    (listing-find-member G b k r above (items above places ++ resume v ∷ todo) (yield below) (yield rest) o h
    (row→listed G b (nodes rest + left) (yield rest) (items above places ++ resume v ∷ todo) (code rest ++ e) f (omega arith)
    (row→listed G (nodes rest + left) left v todo e g refl i)))

-- a tree: a row for one nonterminal
pub record TreeOf (G : Cfg) (b k : ℕ) (above : List Span) (w e : List ℕ) : Type 0 where
  pub tree : Forest
  pub fit : Fit G above (nonterminal k ∷ []) tree
  pub covers : yield tree ≡ w
  pub small : nodes tree ≤ b
  pub coded : code tree ≡ e

pub listed→tree : (G : Cfg) (b k : ℕ) (above : List Span) (w : List ℕ) {e : List ℕ} → Memᴰ e (listing G b (find k above ∷ []) w)
    → TreeOf G b k above w e
unfolding yield nodes code
listed→tree G b k above w {e} i = finish (listing-find-cases G b k above [] w i)
  where
    assemble : RowFirst G b above (nonterminal k ∷ []) [] [] w e → TreeOf G b k above w e
    assemble r =
        let x = listing-none-cases G r.left [] r.listed in
        record {
          tree = r.row;
          fit = r.fit;
          covers = r.covers;
          small = omega arith;
          coded = sym (append-nil (code r.row)) ∙ ap (λ l. code r.row ++ l) (sym x.1) ∙ sym r.coded;
        }

    -- after the node's own row nothing is left
    ended : (left : ℕ) (v d : List ℕ) → Memᴰ d (listing G left [] v) → RowFirst G left above [] [] [] v d
    ended left v d j =
        let x = listing-none-cases G left v j in
        record {
          row = end;
          fit = fit-end;
          covers = sym x.0;
          left = left;
          spent = omega arith;
          rest = d;
          coded = refl;
          listed = subst (λ l. Memᴰ d (listing G left [] l)) x.0 j;
        }

    finish : Found G b k above [] w e → TreeOf G b k above w e
    finish x =
        let c = x.cover in
        let below = listed→row G x.left x.left (omega arith) (span k c ∷ above) x.o.the.places in
        let r = below (drop c w) [] (take c w) x.rest x.listed in
        assemble (subst (λ n. RowFirst G n above (nonterminal k ∷ []) [] [] w e) (sym x.spent)
        (node-first G x.left k c x.number above [] [] [] [] w x.rest e x.o x.fresh x.covers x.coded r
        (ended r.left (drop c w) r.rest r.listed)))

pub tree→listed : (G : Cfg) (b k : ℕ) (above : List Span) (t : Forest) → Fit G above (nonterminal k ∷ []) t → nodes t ≤ b
    → Memᴰ (code t) (listing G b (find k above ∷ []) (yield t))
unfolding yield nodes code
tree→listed G zero k above t (fit-node o h f fit-end) n = absurd (omega arith)
tree→listed G (suc b) k above t (fit-node {r = r} {below = below} o h f fit-end) n =
    listing-find-member G b k r above [] (yield below) [] o h
    (row→listed G b (b - nodes below) [] [] [] f (omega arith) (listing-none-member G (b - nodes below)))
