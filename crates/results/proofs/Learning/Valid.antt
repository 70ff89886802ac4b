-- Check 8 lets the longer grammar through. Assumes nothing.
use Prim.Native.Nat.{ℕ}
use native.Mathlib.Omega.{arith}
use mathlib.Core.Bool.{true}
use mathlib.Core.List.{List}
use mathlib.Core.Path.{◌≡◌}
use Rattle.grammar.specs.declared.Grammar.{Grammar}
use Rattle.grammar.specs.Valid.{valid_grammar}
use Rattle.grammar.proofs.Setters.{set-depth-valid}
use Rattle.theory_tidying.proofs.Named.{tidied-valid}
use Rattle.results.specs.Learn.{longer, enlarged}
use Rattle.results.proofs.Loading.Valid.{valid-invariant}
use Rattle.results.proofs.Learning.Commands.{learn-invariant}
use Rattle.results.proofs.Learning.Enlarged.{enlarged-longer}

pub enlarged-valid : (g g' : Grammar) (bytes : List ℕ) → valid_grammar g ≡ true → enlarged g bytes ≡ longer g' → valid_grammar g' ≡ true
enlarged-valid g g' bytes v e =
    let L = enlarged-longer (learn-invariant (valid-invariant bytes)) g g' (tidied-valid g v, λ z. absurd (omega arith)) e in
    rw L.same (set-depth-valid L.read L.holds.0 _)
