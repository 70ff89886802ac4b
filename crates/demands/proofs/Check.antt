-- Demand 2, second half: the check says yes exactly if the offered row is a derivation (reading) of the input, and no exactly if not.
-- Assumes nothing.
use Prim.Native.Nat.{ℕ}
use mathlib.Core.Bool.{Bool, true, false}
use mathlib.Core.List.{List}
use mathlib.Core.Logic.{◌↔◌}
use mathlib.Core.Path.{◌≡◌, sym, ap, ◌∙◌}
use Rattle.laws.proofs.Bools.{true-false, bool_false}
use Rattle.cfg.specs.Derivation.{Derivation, limit}
use Rattle.cfg.specs.Listing.{L}
use Rattle.grammar.specs.View.{Dated, grammar_of}
use Rattle.results.specs.Answer.{answered}
use Rattle.results.specs.Check.{Checking, listed, check_in, check_of}
use Rattle.results.specs.Ready.{Ready}
use Rattle.results.proofs.Answers.{answered-inj}
use Rattle.results.proofs.Goes.{on_input-passed}
use Rattle.demands.proofs.Listed.{listed-exact}

module _ (g : Dated) (w chart : List ℕ) (ready : Ready g w chart) (offered : List ℕ) where
  said : (check_of g w offered chart).answer ≡ answered (listed offered (L (grammar_of g) w))
  unfolding check_of check_in
  said = ap (λ (x : Checking Bool). x.answer) (on_input-passed g w chart _ ready)

  pub check-yes : ((check_of g w offered chart).answer ≡ answered true) ↔ Derivation (grammar_of g) limit w offered
  check-yes = (λ e. (listed-exact g w offered).0 (answered-inj (sym said ∙ e)), λ d. said ∙ ap answered ((listed-exact g w offered).1 d))

  pub check-no : ((check_of g w offered chart).answer ≡ answered false) ↔ (Derivation (grammar_of g) limit w offered → ⊥)
  check-no = (
    λ e d. true-false ((listed-exact g w offered).1 d) (answered-inj (sym said ∙ e)),
    λ f. said ∙ ap answered (bool_false (listed offered (L (grammar_of g) w)) (λ e. f ((listed-exact g w offered).0 e))),
  )
