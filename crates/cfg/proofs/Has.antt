-- Nodes in a forest. Assumes nothing.
use Prim.Native.Nat.{ℕ, ◌≤◌}
use native.Mathlib.Omega.{arith}
use lib.ListN.{length, length-append}
use Rattle.cfg.specs.Grammar.{Cfg}
use Rattle.cfg.specs.Tree.{Forest, yield}
use Rattle.cfg.specs.Derivation.{Has, has_here, has_below, has_beside, has_after}

-- a node covers no more than the forest that it is in
pub has_within : {G : Cfg} {k n : ℕ} {f : Forest} → Has G k n f → n ≤ length (yield f)
unfolding yield
has_within (has_here {below = below} {rest} o e) = omega (arith, length-append (yield below) (yield rest))
has_within (has_below {below = below} {rest} h) = omega (arith, has_within h, length-append (yield below) (yield rest))
has_within (has_beside {below = below} {rest} h) = omega (arith, has_within h, length-append (yield below) (yield rest))
has_within (has_after h) = omega (arith, has_within h)
