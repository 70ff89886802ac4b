-- `words_write::put_node`, which calls itself, meets its contract. Assumes nothing.
use native.Mathlib.Omega.{arith}
use borrow.Author.Rules.{rules}
use Rattle.words_write.proofs.Rooms.{open-room, started, along-start, comma-fits, leaf-fits, node-fits, leaf-again, node-again, node_done}
use Rattle.words_write.proofs.+put_node.Goals as goal
use Rattle.words_write.proofs.+put_node.Goals.{in-Leaf, in-Node}

pub open_node-cursor-requires : goal.open_node-cursor-requires
open_node-cursor-requires t c = (omega arith, search rules, omega arith, search open-room)

pub loop-q-init : goal.loop-q-init
loop-q-init t c = (omega arith, omega arith, search rules, omega arith, search (started, rules), along-start)

pub put_comma-next-requires : goal.put_comma-next-requires
put_comma-next-requires t c = search comma-fits

pub put_leaf-cursor-requires : goal.put_leaf-cursor-requires
put_leaf-cursor-requires t c =
    let inv = c.loop-q.invariant in
    leaf-fits inv.2 c.loop-q-test.true inv.4 inv.5 c.put_comma-next.ensures _ c.look.ensures c.in-Leaf.is

pub put_node-cursor-requires : goal.put_node-cursor-requires
put_node-cursor-requires t c =
    let inv = c.loop-q.invariant in (
      omega (arith, c.requires.few, inv.4.few),
      node-fits inv.2 c.loop-q-test.true inv.4 inv.5 c.put_comma-next.ensures _ c.look.ensures c.in-Node.is,
    )

pub loop-q-preserved : goal.loop-q-preserved
loop-q-preserved t c =
    let inv = c.loop-q.invariant in (
      omega arith,
      inv.1,
      inv.2,
      inv.3,
      inv.4,
      elim c.match-look.branch [
        | in-Leaf w ↦
            rw (w.cursor-is, w.out-is) (leaf-again inv.2 c.loop-q-test.true inv.4 inv.5 c.put_comma-next.ensures _ c.look.ensures w.in-Leaf.is
            w.put_leaf-cursor.ensures)
        | in-Node w ↦
            rw (w.cursor-is, w.out-is) (node-again inv.2 c.loop-q-test.true inv.4 inv.5 c.put_comma-next.ensures _ c.look.ensures w.in-Node.is
            w.put_node-cursor.ensures)
      ],
    )

pub returns : goal.returns
returns t c = search node_done
