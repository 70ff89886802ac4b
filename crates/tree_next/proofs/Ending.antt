-- What follows if the last node of a row does not move, or the row has none: at a byte, at a node with others after it, and at that last
-- node. Assumes nothing.
use Prim.Native.Nat.{ℕ, ◌+◌, ◌*◌, ◌-◌, ◌<◌}
use mathlib.Core.Bool.{true, false, true≢false}
use mathlib.Core.List.{List, ◌++◌}
use mathlib.Core.Path.{◌≡◌, sym, ap, subst, ◌∙◌}
use native.Mathlib.Omega.{arith}
use lib.ListN.{get_or}
use Rattle.cfg.specs.Grammar.{Cfg, Symbol}
use Rattle.cfg.specs.Tree.{Forest, nodes, code}
use Rattle.theory_enumeration.specs.Rows.{Row}
use Rattle.theory_enumeration.specs.Order.{Last}
use Rattle.theory_choices.specs.Opened.{OpenedLeaf, OpenedRow}
use Rattle.packed.specs.Packed.{place_count, is_nonterminal_in, value_in, terminal_in}
use Rattle.tree_size.specs.Standing.{StandsAt}
use Rattle.table_layout.specs.Exact.{Packing}
use Rattle.table_suffix.specs.Within.{tail_in}
use Rattle.tree_read.specs.Looked.{LeavesIn}
use Rattle.tree_read.specs.Reached.{Ends, ends_none, ends_leaf, ends_node, ends_last}
use Rattle.tree_read.proofs.Reading.{first-number}

module _ {p w : List ℕ} {cover mask r j q a budget : ℕ} {f : Forest} where
  pub ends-byte : Ends p w cover mask r j q a budget f → q < place_count p r → is_nonterminal_in p r q ≡ false
      → (g : Forest) × OpenedLeaf (Packing p) w cover mask (terminal_in p r q) (tail_in p r (q + 1)) a j budget f (a + 1) g
      × Ends p w cover mask r j (q + 1) (a + 1) budget g
  ends-byte (ends_none m) c n = absurd (omega arith)
  ends-byte (ends_leaf g _ o D) c n = (g, o, D)
  ends-byte (ends_node _ _ _ y _ _ _) c n = absurd (true≢false (sym y ∙ n))
  ends-byte (ends_last y _ _) c n = absurd (true≢false (sym y ∙ n))

  pub ends-others : {k : ℕ} → Ends p w cover mask r j q a budget f → q < place_count p r → is_nonterminal_in p r q ≡ true
      → (LeavesIn p r (q + 1) (place_count p r) → ⊥) → k ≡ value_in p r q
      → (b : ℕ) × (x z : Forest) × OpenedRow (Packing p) w cover mask k (tail_in p r (q + 1)) a j budget f b x z
      × Ends p w cover mask r j (q + 1) b (budget - nodes x) z
  ends-others (ends_none m) c y N e = absurd (omega arith)
  ends-others (ends_leaf _ n _ _) c y N e = absurd (true≢false (sym y ∙ n))
  ends-others (ends_node b x z _ _ o D) c y N e =
      (b, x, z, subst (λ (v : ℕ). OpenedRow (Packing p) w cover mask v (tail_in p r (q + 1)) a j budget f b x z) (sym e) o, D)
  ends-others (ends_last _ L _) c y N e = absurd (N L)

  pub ends-row : Ends p w cover mask r j q a budget f → q < place_count p r → is_nonterminal_in p r q ≡ true
      → LeavesIn p r (q + 1) (place_count p r) → Last (Row (Packing p) w cover mask (tail_in p r q) a j budget) (code f)
  ends-row (ends_none m) c y L = absurd (omega arith)
  ends-row (ends_leaf _ n _ _) c y L = absurd (true≢false (sym y ∙ n))
  ends-row (ends_node _ _ _ _ N _ _) c y L = absurd (N L)
  ends-row (ends_last _ _ D) c y L = D

-- the first number in the buffer says where the row's first node ends
pub ends-here : {G : Cfg} {w : List ℕ} {cover mask k : ℕ} {places : List Symbol} {a j budget b c : ℕ} {f x y : Forest}
    (buf : List ℕ) (at : ℕ) → StandsAt buf at (code f) → OpenedRow G w cover mask k places a j budget f c x y
    → b ≡ a + get_or buf (2 * at) 0 → c ≡ b
ends-here {a = a} {b = b} {c} {f} {x} {y} buf at S o e =
    let h = o.rising in
    let d = first-number buf at S o in
    let g : get_or (code f) 0 0 ≡ c - a = ap (λ (l : List ℕ). get_or l 0 0) (o.coded ∙ ap (λ (l : List ℕ). l ++ code y) o.begins) in
    omega arith
