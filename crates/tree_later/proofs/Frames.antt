-- The frame of a node: before it is made, after it is made, and what it then says of an input. Assumes nothing.
use Prim.Native.Nat.{ℕ, ◌≤◌}
use mathlib.Core.List.{List}
use mathlib.Core.Path.{◌≡◌}
use native.Mathlib.Omega.{arith}
use lib.ListN.{length, get_or, replicate, length-replicate, get_or-replicate}
use Rattle.sizes.specs.Sizes.{too_many}
use Rattle.table_layout.specs.Layout.{rows_size}
use Rattle.tree_first.specs.Descend.{InputGiven, BelowGiven}
use Rattle.tree_first.proofs.Given.{span-solved, rows_right}
use Rattle.tree_later.specs.Beyond.{CostsMade, Frame}

module _ {p : List ℕ} {rules : ℕ} {fits chart tables : List ℕ} {r i j mask : ℕ} where
  pub frame-unmade : {rows : List ℕ} → length rows ≡ rows_size → Frame p rules fits chart tables r i j mask (replicate 32 65535) rows
  frame-unmade {rows} e = record {
    long = length-replicate {A = ℕ} 32 65535;
    room = e;
    solved = λ l. absurd (large l);
    costs = λ l. absurd (large l);
  }
    where
      large : get_or (replicate 32 65535) 0 0 ≤ too_many → ⊥
      large l = omega (arith, get_or-replicate {A = ℕ} 32 0 65535 0 (omega arith))

  module _ {full rows : List ℕ} where
    pub made_found : {n : ℕ} → Frame p rules fits chart tables r i j mask full rows → n ≡ get_or full 0 0 → n ≤ too_many
        → CostsMade p rules fits chart tables r i j mask full rows
    made_found F e l = record { long = F.long; room = F.room; solved = F.solved (omega arith); costs = F.costs (omega arith) }

    pub made-frame : CostsMade p rules fits chart tables r i j mask full rows → Frame p rules fits chart tables r i j mask full rows
    made-frame M = record { long = M.long; room = M.room; solved = λ _. M.solved; costs = λ _. M.costs }

    pub made-below : {w : List ℕ} → InputGiven p rules fits chart tables w → i ≤ j → j ≤ length w
        → CostsMade p rules fits chart tables r i j mask full rows → BelowGiven p rules fits chart tables full rows r i j mask w
    made-below G h l M = record { given = G; solved = span-solved G h l M.solved; costs = rows_right G h l M.costs }
