-- A column, written cell by cell from the last start down: one more cell, the first cell, and the end. Assumes nothing.
use Prim.Native.Nat.{ℕ, ◌+◌, ◌*◌, ◌^◌, ◌≤◌, ◌<◌}
use mathlib.Core.Bool.{true}
use mathlib.Core.List.{List}
use mathlib.Core.Logic.{◌≢◌, inl, dite}
use mathlib.Core.Path.{◌≡◌, refl, sym, ap, ◌∙◌, subst}
use native.Mathlib.Decide.{ℕ_discrete}
use native.Mathlib.Omega.{arith}
use lib.ListN.{length, get_or, set, replicate, length-set, length-replicate}
use lib.Seq.{ext_get_or}
use Rattle.sizes.specs.Sizes.{cells, max_rules, max_input}
use Rattle.laws.proofs.Bools.{true-false, bool-ext}
use Rattle.laws.proofs.Lists.{zeros-at, set-each}
use Rattle.sets.specs.Set.{has}
use Rattle.sets.proofs.Laws.{has-empty}
use Rattle.chart.specs.Cell.{Fit, cell, index}
use Rattle.chart.proofs.Written.{index-inj, written-length, written-other, written-cell-other}
use Rattle.packed.specs.Packed.{Used, cfg_in}
use Rattle.packed_fit.specs.Fit.{entry_in, FitTold}
use Rattle.fill_rule.specs.Flags.{Sets}
use Rattle.fill_rule.specs.Passes.{RuleSettled}
use Rattle.fill_words.specs.Spans.{ends_of, starts_size}
use Rattle.fill_words.specs.Ends.{EndsTo, StartsFrom, FlagsPut}
use Rattle.fill_inner.specs.Begins.{EndsTold, InnerKnown, Near, AllBegin}
use Rattle.fill_empty.specs.Empty.{KindsAll, EmptyClosed, EmptyTold}
use Rattle.fill_closure.specs.Looks.{Givens, LeastClosed}
use Rattle.fill_columns.specs.Columns.{column_by, Around, WrittenFrom, CellWritten, LowerWritten, ColumnWritten}
use Rattle.fill_columns.proofs.Cell.{column-closed-at, cell-is, flags-are}

module _ (p : List ℕ) (fit : Fit) (found : List ℕ) (rules n : ℕ) (small : n ≤ max_input) where
  abbrev full : Sets
  full = cell (column_by p fit n found)

  -- an earlier column is as found
  full-earlier : (a b : ℕ) → b < n → full a b ≡ cell found a b
  full-earlier a b l = written-cell-other (cfg_in 0 p) fit n found small a b (omega arith) (λ e. absurd (omega arith))

  -- the ends of the earlier columns have the members of their sets
  ends-told : (ends reach : List ℕ) → EndsTo found n 0 ends reach → (i : ℕ) → EndsTold full i n ends
  ends-told ends reach to i = record {
    exact = λ k b h l m. bool-ext (has b (ends_of ends i k)) (has k (full i b))
        (λ e. ap (has k) (full-earlier i b m) ∙ (to.sound i k b h l e).1)
        (λ e. to.all i k b h (l, inl m) (ap (has k) (sym (full-earlier i b m)) ∙ e));
    high = λ k b h l m. ap (has k) (full-earlier i b m) ∙ to.high i k b h (l, inl m);
  }

  -- one more cell, with the set that the column has
  cells-step : (i j v : ℕ) (chart : List ℕ) → cells ≤ length found → length chart ≡ length found → i ≤ n → j ≡ i + 1 → v ≡ full i n
      → ((x : ℕ) → ((a : ℕ) → a < j → x ≢ index a n) → get_or chart x 0 ≡ get_or (column_by p fit n found) x 0)
      → (x : ℕ) → ((a : ℕ) → a < i → x ≢ index a n) → get_or (set chart (index i n) v) x 0 ≡ get_or (column_by p fit n found) x 0
  cells-step i j v chart room long order next own before x h =
      set-each (λ (y w : ℕ). w ≡ get_or (column_by p fit n found) y 0) 0 chart (index i n) v (omega arith) own x
      (λ e. before x (λ a l q. dite (ℕ_discrete a i)
      (λ d. e (q ∙ ap (λ (y : ℕ). index y n) d))
      (λ d. let u : a ≢ i = d in h a (omega arith) q)))

  module _ (i j v reached : ℕ) (t ends reach lasts kinds insides flags made chart starts live starts' live' : List ℕ)
      (room : cells ≤ length found) (few : rules ≤ max_rules) (used : Used p rules) (order : i < n) (next : j ≡ i + 1) (word : v < 2 ^ 32)
      (e : reached ≡ get_or reach i 0)
      (around : Around p fit t found rules n ends reach lasts) (from : WrittenFrom p fit found rules n j chart starts live)
      (depends : KindsAll p rules lasts kinds)
      (inner : AllBegin p rules i n t ends starts reached live lasts insides)
      (closed : LeastClosed p rules (cell chart i i) insides lasts kinds v flags made)
      (put : FlagsPut p rules i flags starts live starts' live') where
    behind : StartsFrom fit full p rules (i + 1) n starts live
    behind = subst (λ (x : ℕ). StartsFrom fit full p rules x n starts live) next from.from

    known : (r : ℕ) → r < rules → InnerKnown fit full p r i n (entry_in t i r) ends starts (get_or lasts r 0)
    known r h = record {
      here = λ q. around.fits i r q order (omega arith);
      inside = ends-told ends reach around.told i;
      behind = behind.told r h;
      after = around.after r h;
    }

    near : (r : ℕ) → r < rules → Near full p r i n starts reached (get_or live r 0)
    near r h = record {
      reaches = λ k b l m x. ap (has b) e ∙ around.told.reaches i k b (l, inl m) (ap (has k) (sym (full-earlier i b m)) ∙ x);
      lives = λ q a. behind.lives r q a h;
    }

    givens : Givens fit full p rules i n (cell chart i i) insides lasts kinds
    givens r h = record {
      empty = sym (from.cells (index i i) (λ a _ d. let q = index-inj i i a n (omega arith) small d in omega arith));
      begins = (inner.each r h).exact fit full (known r h) (near r h);
      after = around.after r h;
      depends = depends.each r h;
    }

    settled : (r : ℕ) → r < rules → RuleSettled fit full p r i n v (get_or flags r 0)
    settled = closed.settled fit full i n order givens

    own : v ≡ full i n
    own = cell-is p fit found n small room i (omega arith) rules v (λ (r : ℕ). get_or flags r 0) used settled word
        (closed.sound fit full i n order givens (full i n) (column-closed-at p fit found n small room i (omega arith)))

    step : WrittenFrom p fit found rules n i (set chart (index i n) v) starts' live'
    step = record {
      long = length-set chart (index i n) v ∙ from.long;
      cells = cells-step i j v chart room from.long (omega arith) next own from.cells;
      room = put.long;
      live_room = put.live_long;
      from = put.step fit full n order
          (flags-are p fit found n small room i (omega arith) rules v (λ (r : ℕ). get_or flags r 0) used settled own) behind;
    }

pub cell-written : (p : List ℕ) (rules n i v reached : ℕ)
    (t ends reach lasts kinds insides flags made chart starts live starts' live' : List ℕ)
    → n ≤ max_input → rules ≤ max_rules → Used p rules → i < n → v < 2 ^ 32 → reached ≡ get_or reach i 0 → KindsAll p rules lasts kinds
    → AllBegin p rules i n t ends starts reached live lasts insides
    → LeastClosed p rules (cell chart i i) insides lasts kinds v flags made
    → FlagsPut p rules i flags starts live starts' live'
    → CellWritten p t rules n i ends reach lasts chart starts live (set chart (index i n) v) starts' live'
cell-written p rules n i v reached t ends reach lasts kinds insides flags made chart starts live starts' live' small few used order
    word e depends inner closed put = record {
      long = length-set chart (index i n) v;
      room = put.long;
      live_room = put.live_long;
      step = λ fit found room around j next from. step p fit found rules n small i j v reached t ends reach lasts kinds insides flags made
          chart starts live starts' live' room few used order next word e around from depends inner closed put;
    }

-- ---- where a column begins and ends

pub zero_has : (k x j : ℕ) → has j (get_or (replicate k 0) x 0) ≡ true → ⊥
zero_has k x j h = true-false h (ap (has j) (zeros-at k x) ∙ has-empty j)

module _ (p : List ℕ) (fit : Fit) (found : List ℕ) (rules n own : ℕ) (lasts : List ℕ) (small : n ≤ max_input)
    (room : cells ≤ length found) (used : Used p rules) (word : own < 2 ^ 32) (closed : EmptyClosed p rules own lasts) where
  last-settled : (r : ℕ) → r < rules → RuleSettled fit (cell (column_by p fit n found)) p r n n own (get_or lasts r 0)
  last-settled = closed.settled fit (cell (column_by p fit n found)) n

  last-own : own ≡ cell (column_by p fit n found) n n
  last-own = cell-is p fit found n small room n (omega arith) rules own (λ (r : ℕ). get_or lasts r 0) used last-settled word
      (closed.sound fit (cell (column_by p fit n found)) n (cell (column_by p fit n found) n n)
      (column-closed-at p fit found n small room n (omega arith)))

  pub around : (t ends reach : List ℕ) → FitTold fit p t n → EndsTo found n 0 ends reach → Around p fit t found rules n ends reach lasts
  around t ends reach fits to = record {
    fits = fits;
    told = to;
    after = flags-are p fit found n small room n (omega arith) rules own (λ (r : ℕ). get_or lasts r 0) used last-settled last-own;
  }

  column-start : (k l : ℕ) → k ≡ starts_size → l ≡ max_rules
      → WrittenFrom p fit found rules n n (set found (index n n) own) (replicate k 0) (replicate l 0)
  column-start k l e f = record {
    long = length-set found (index n n) own;
    cells = cells-step p fit found rules n small n (n + 1) own found room refl (omega arith) refl last-own
        (λ x h. sym (written-other (cfg_in 0 p) fit n found x (λ a m. h a (omega arith))));
    room = length-replicate {A = ℕ} k 0 ∙ e;
    live_room = length-replicate {A = ℕ} l 0 ∙ f;
    from = record {
      told = λ r h. record {
        sound = λ q a _ _ x. absurd (zero_has k (8 * r + q) a x);
        all = λ q a _ _ m o. absurd (omega arith);
      };
      lives = λ r q a _ _ _ x. absurd (zero_has k (8 * r + q) a x);
    };
  }

  pub column-start-zero : WrittenFrom p fit found rules n n (set found (index n n) own) (replicate starts_size 0) (replicate max_rules 0)
  column-start-zero = column-start starts_size max_rules refl refl

pub column-done : (p : List ℕ) (fit : Fit) (found : List ℕ) (rules n i : ℕ) (chart starts live : List ℕ) → i ≤ 0
    → WrittenFrom p fit found rules n i chart starts live → chart ≡ column_by p fit n found
column-done p fit found rules n i chart starts live h from = ext_get_or 0 chart (column_by p fit n found)
    (from.long ∙ sym (written-length (cfg_in 0 p) fit n found)) (λ x _. from.cells x (λ a l. absurd (omega arith)))

-- ---- the cells before the last

module _ (p t : List ℕ) (rules n : ℕ) (ends reach lasts chart₀ starts₀ live₀ : List ℕ) where
  -- the cells of the starts from i on are written
  pub record LowerTo (i : ℕ) (chart starts live : List ℕ) : Type 0 where
    pub long : length chart ≡ length chart₀
    pub from : (fit : Fit) (found : List ℕ) → cells ≤ length found → Around p fit t found rules n ends reach lasts
        → WrittenFrom p fit found rules n n chart₀ starts₀ live₀ → WrittenFrom p fit found rules n i chart starts live

pub lower-done : (p t : List ℕ) (rules n i : ℕ) (ends reach lasts chart₀ chart starts live : List ℕ) → i ≤ 0
    → LowerTo p t rules n ends reach lasts chart₀ (replicate starts_size 0) (replicate max_rules 0) i chart starts live
    → LowerWritten p t rules n ends reach lasts chart₀ chart
lower-done p t rules n i ends reach lasts chart₀ chart starts live h to = record {
  long = to.long;
  step = λ fit found big around from. column-done p fit found rules n i chart starts live h (to.from fit found big around from);
}

pub column-length : (p t : List ℕ) (rules n own : ℕ) (lasts ends reach chart chart' : List ℕ)
    → LowerWritten p t rules n ends reach lasts (set chart (index n n) own) chart' → length chart' ≡ length chart
column-length p t rules n own lasts ends reach chart chart' lower = lower.long ∙ length-set chart (index n n) own

pub column-written : (p t : List ℕ) (rules n own : ℕ) (lasts kinds ends reach chart chart' : List ℕ) → n ≤ max_input → cells ≤ length chart
    → Used p rules → own < 2 ^ 32 → EmptyTold p rules own lasts kinds
    → LowerWritten p t rules n ends reach lasts (set chart (index n n) own) chart' → ColumnWritten p t n ends reach chart chart'
column-written p t rules n own lasts kinds ends reach chart chart' small room used word told lower = record {
  long = column-length p t rules n own lasts ends reach chart chart' lower;
  exact = λ fit fits to.
      lower.step fit chart room (around p fit chart rules n own lasts small room used word told.closed t ends reach fits to)
      (column-start-zero p fit chart rules n own lasts small room used word told.closed);
}

-- column 0 is one cell
pub column-zero : (p : List ℕ) (fit : Fit) (rules own : ℕ) (lasts chart : List ℕ) → cells ≤ length chart → Used p rules → own < 2 ^ 32
    → EmptyClosed p rules own lasts → set chart 0 own ≡ column_by p fit 0 chart
column-zero p fit rules own lasts chart room used word closed =
    column-done p fit chart rules 0 0 (set chart 0 own) (replicate starts_size 0) (replicate max_rules 0) (omega arith)
    (column-start-zero p fit chart rules 0 own lasts (omega arith) room used word closed)

-- a cell of the first row is stored at the index of its end
pub cell-first-row : (chart : List ℕ) (n : ℕ) → get_or chart n 0 ≡ cell chart 0 n
cell-first-row chart n = ap (λ (x : ℕ). get_or chart x 0) {x = n} {y = index 0 n} (omega arith)
