-- Answers that differ: a refusal is no answer, and what is handed out or counted is not "none" or "more". Assumes nothing.
use Prim.Native.Nat.{ℕ}
use mathlib.Core.Path.{◌≡◌}
use Rattle.laws.proofs.Bools.{clash}
use Rattle.results.specs.Answer.{Answer, refused, answered, handed, nothing, counted, more}

pub refused-inj : {A : Type 0} {m n : ℕ} → ◌≡◌ {A = Answer A} (refused m) (refused n) → m ≡ n
refused-inj e = cc

pub answered-inj : {A : Type 0} {a b : A} → answered a ≡ answered b → a ≡ b
answered-inj e = cc

pub refused-apart : {A : Type 0} {n : ℕ} {a : A} → refused n ≡ answered a → ⊥
refused-apart e = clash cc

pub answered-apart : {A : Type 0} {a : A} {n : ℕ} → answered a ≡ refused n → ⊥
answered-apart e = clash cc

pub handed-apart : {n : ℕ} → answered (handed n) ≡ answered nothing → ⊥
handed-apart e = clash cc

pub figures-apart : (n : ℕ) → answered (counted n) ≡ answered more → ⊥
figures-apart n e = clash cc
