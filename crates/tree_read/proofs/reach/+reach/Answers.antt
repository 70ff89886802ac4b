-- `reach`: what its calls require, and nothing, the end, a byte, the last node, or another node. Assumes nothing.
use Rattle.std.proofs.Common.{arith}
use Rattle.tree_read.proofs.Reading.{byte-room, node-room}
use Rattle.tree_read.proofs.Reaching.{reach-none, reach-end, reach-byte, reach-last, reach-node}
use Rattle.tree_read.proofs.reach.+reach.Goals as goal

pub reach-requires : goal.reach-requires
reach-requires t c = omega (arith, byte-room c.in-Byte.ensures)

pub reach-requires-in-Node : goal.reach-requires-in-Node
reach-requires-in-Node t c = omega (arith, node-room c.in-Node.ensures)

pub returns-in-No : goal.returns-in-No
returns-in-No t c = reach-none (omega arith) (omega arith) c.in-No.ensures

pub returns-in-End : goal.returns-in-End
returns-in-End t c = reach-end (omega arith) (omega arith) c.in-End.ensures

pub returns-in-Byte : goal.returns-in-Byte
returns-in-Byte t c = reach-byte (omega arith) (omega arith) c.in-Byte.ensures c.reach.ensures

pub returns-in-Final : goal.returns-in-Final
returns-in-Final t c = reach-last (omega arith) (omega arith) c.in-Final.ensures

pub returns-in-Node : goal.returns-in-Node
returns-in-Node t c = reach-node (omega arith) (omega arith) c.in-Node.ensures c.reach-in-Node.ensures
