-- The two numbers of a node, set one after the other. Assumes nothing.
use Prim.Native.Nat.{ℕ, ◌+◌, ◌*◌, ◌<◌}
use mathlib.Core.List.{List}
use mathlib.Core.Path.{◌∙◌}
use native.Mathlib.Omega.{arith}
use lib.ListN.{length, set, length-set}
use lib.Seq.{get_or-set_same, get_or-set_other}
use Rattle.tree_node.specs.Numbers.{NodePut}

pub node-put : {c r at : ℕ} (out : List ℕ) → 2 * at + 1 < length out → NodePut c r at out (set (set out (2 * at) c) (2 * at + 1) r)
node-put {c} {r} {at} out l = record {
  long = length-set (set out (2 * at) c) (2 * at + 1) r ∙ length-set out (2 * at) c;
  cover =
      get_or-set_other (set out (2 * at) c) (2 * at + 1) (2 * at) r 0 (λ e. omega arith) ∙ get_or-set_same out (2 * at) c 0 (omega arith);
  rule = get_or-set_same (set out (2 * at) c) (2 * at + 1) r 0 (omega (arith, length-set out (2 * at) c));
  other = λ x d e. get_or-set_other (set out (2 * at) c) (2 * at + 1) x r 0 e ∙ get_or-set_other out (2 * at) x c 0 d;
}
