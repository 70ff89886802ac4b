-- `words_write::put_node` calls itself: the measure is the number of nodes left. The loop's invariant: of the forest below the node what is
-- left is at the cursor, and the text of what is passed is written. Assumes nothing.
use Prim.Native.Nat.{◌≤◌, ◌<◌}
use mathlib.Core.Path.{◌≡◌}
use lib.ListN.{length}
use Rattle.sizes.specs.Sizes.{max_rules, max_places}
use Rattle.packed.specs.Packed.{place_count}
use Rattle.words_write.proofs.Places.{remaining, Along}
use Rattle.words_write.proofs.Rooms.{Started}
use Rattle.words_write.proofs.+put_node.Given as goal

abbrev pub decreases-put_node : goal.decreases-put_node
decreases-put_node l = l.left

abbrev pub invariant-loop-q : goal.invariant-loop-q
invariant-loop-q l = (l.q ≤ l.n) × (l.n ≤ max_places) × (l.n ≡ place_count l.p l.r) × (l.r < max_rules)
    × Started l.names l.p l.w l.e l.left l.r l.initial.cursor (length l.initial.out)
    × Along l.names l.p l.w l.e l.r l.q (remaining l.names l.q) l.initial.cursor l.cursor l.initial.out l.out
