-- The first line that is due, by the tests that the code makes once the chart is filled. Assumes nothing.
use Prim.Native.Nat.{ℕ, ◌≤◌, ◌<◌}
use mathlib.Core.Bool.{Bool, true, false, not}
use mathlib.Core.List.{List, [], ◌∷◌, ◌++◌, Memᴰ}
use mathlib.Core.Path.{◌≡◌, refl, sym, ap, ◌∙◌}
use native.Mathlib.Omega.{arith}
use lib.Dec.{leb}
use lib.IntN.{ℤ}
use lib.ListN.{length, get_or, drop, length-append, length-drop}
use borrow.Author.Tests.{leb-true, not-true, not-false}
use Rattle.sizes.specs.Sizes.{max_rules, max_input, max_nodes, output_size, most}
use Rattle.sets.specs.Set.{has}
use Rattle.cfg.specs.Listing.{L}
use Rattle.chart.specs.Cell.{cell}
use Rattle.chart.specs.Column.{complete}
use Rattle.theory_costs.specs.Span.{bytes_of}
use Rattle.count_made.proofs.Handed.{Handed, handed-first}
use Rattle.tree_first.specs.Descend.{InputGiven}
use Rattle.first_made.specs.Written.{FirstWritten}
use Rattle.first_made.proofs.Root.{empty-incomplete}
use Rattle.first_made.proofs.Writing.{empty-larger}
use Rattle.packed.specs.Packed.{cfg_in}
use Rattle.results.proofs.Demand3.Listed.{reading-even, reading-short}
use Rattle.results.proofs.Demand3.Rows.{at-member}
use Rattle.table_layout.specs.Exact.{ChartTrue}
use Rattle.table_layout.specs.Layout.{cost_in}
use Rattle.text.specs.Line.{refused_line}
use Rattle.text.specs.Text.{text_by, list_text}
use Rattle.print_begin.specs.declared.Due.TheVariants.{Refusal, NoReading, Reading}
use Rattle.print_begin.specs.declared.Due.{Due}
use Rattle.print_begin.specs.Due.{DueSized, lines_at}
use Rattle.print_begin.specs.Begun.{TreeBegun, FilledBegun}

-- ---- the text by the list of derivations

text-empty : (lengths : ℕ → ℤ) (x l : List (List ℕ)) → l ≡ [] → text_by lengths x l ≡ x
unfolding text_by
text-empty lengths x l e = rw e

text-listed : (lengths : ℕ → ℤ) (x l : List (List ℕ)) → 0 < length l → text_by lengths x l ≡ lines_at lengths l 0
unfolding text_by list_text
text-listed lengths x [] h = absurd (omega arith)
text-listed lengths x (e ∷ l) h = refl

-- ---- what is handed out

handed-length : (d out₀ out : List ℕ) → length d ≤ output_size → output_size ≤ length out₀ → out ≡ d ++ drop (length d) out₀
    → length out ≡ length out₀
handed-length d out₀ out h k e =
    let a = ap length e ∙ length-append d (drop (length d) out₀) in
    omega (arith, length-drop (length d) out₀)

first-early : 0 < most
first-early = omega arith

-- ---- where trees exist

module _ (p w : List ℕ) (s rules : ℕ) (fits chart tables : List ℕ) (built : (rules ≤ max_rules) × InputGiven p rules fits chart tables w)
    (b : Bool) (told : b ≡ leb (cost_in tables s 0 (length w)) max_nodes) where
  abbrev list : List (List ℕ)
  list = L (cfg_in s p) w

  pub tree-refused : not b ≡ true → (d : Due) → d ≡ Refusal 13 → DueSized d → (buf : List ℕ) → TreeBegun p s w chart fits tables buf buf d
  tree-refused h d is sized buf = record {
    long = refl;
    sized = sized;
    ahead = λ lengths. rw is (text-empty lengths (refused_line 13 ∷ []) list
        (empty-larger p rules fits chart tables s (length w) w refl built.1 (sym told ∙ not-true b h)));
  }

  module _ (h : not b ≡ false) (short : length w ≤ max_input) (buf₀ buf : List ℕ) (room : output_size ≤ length buf₀) (m : ℕ)
      (W : FirstWritten p rules fits chart tables s (length w) buf₀ buf m) where
    first-handed : Handed list m buf₀ buf
    first-handed = handed-first list chart buf₀ buf m
        (W.exact (leb-true (cost_in tables s 0 (length w)) max_nodes (sym told ∙ not-false b h)) w refl built.1)

    first_member : Memᴰ (get_or list 0 []) list
    first_member = at-member list 0 first-handed.stands.there

    pub tree-begun : TreeBegun p s w chart fits tables buf₀ buf (Reading s rules (length w) 0 m)
    tree-begun =
        let F = first-handed in
        let even = reading-even (cfg_in s p) w (get_or list 0 []) first_member in
        let few = reading-short (cfg_in s p) w (get_or list 0 []) first_member in
        record {
          long = handed-length (get_or list 0 []) buf₀ buf few room F.left;
          sized = (built.0, omega arith, omega arith, omega (arith, F.nodes));
          ahead = λ lengths. record {
            input = w;
            long = refl;
            given = built.1;
            stands = F.stands;
            size = omega (arith, F.nodes);
            early = first-early;
            ahead = text-listed lengths (refused_line 13 ∷ []) list F.stands.there;
          };
        }

-- ---- over a chart that is filled

module _ (p w : List ℕ) (s : ℕ) (chart : List ℕ) (b : Bool) (told : b ≡ has s (cell chart 0 (length w))) where
  pub filled_none : ChartTrue p (bytes_of w) chart (length w) → b ≡ false → (fits tables buf : List ℕ)
      → FilledBegun p s w chart fits tables buf buf NoReading
  unfolding complete cfg_in
  filled_none cells h fits tables buf =
      let absent : has s (cell chart 0 (length w)) ≡ false = sym told ∙ h in
      record {
        long = refl;
        sized = tt;
        ahead = λ lengths. text-empty lengths _ (L (cfg_in s p) w) (empty-incomplete p w s chart cells absent) ∙ rw absent;
      }

  pub filled-complete : b ≡ true → (fits tables buf₀ buf : List ℕ) (d : Due) → TreeBegun p s w chart fits tables buf₀ buf d
      → FilledBegun p s w chart fits tables buf₀ buf d
  unfolding complete cfg_in
  filled-complete h fits tables buf₀ buf d T = record {
    long = T.long;
    sized = T.sized;
    ahead = λ lengths. rw (← told, h) (T.ahead lengths);
  }
