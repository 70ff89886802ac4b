-- What reading gives at a fault and at the end: as the definition says, and a valid grammar. Assumes nothing.
use Prim.Native.Nat.{ℕ}
use mathlib.Core.Bool.{true}
use mathlib.Core.List.{List}
use mathlib.Core.Path.{◌≡◌, ap, ◌∙◌}
use lib.ListN.{length}
use borrow.Author.Tests.{eq-eqb}
use Rattle.cfg.specs.Nullable.{depth_of}
use Rattle.grammar.specs.declared.Grammar.{Grammar}
use Rattle.grammar.specs.Valid.{valid_grammar}
use Rattle.grammar.specs.View.{whole_of}
use Rattle.grammar.proofs.Setters.{set-depth-valid}
use Rattle.results.specs.Answer.{decide}
use Rattle.results.specs.Load.{Fault, Loading, accepted_load}
use Rattle.results.specs.Learn.{faulty, with_depth, enlarged}
use Rattle.learn.specs.Reading.{reading_of, fault_in, joined_to}
use Rattle.learn.specs.declared.reading.Enlarged.{Enlarged}

-- what is claimed of what reading gives
abbrev pub Enlarges : Grammar → List ℕ → Enlarged → Type 0
Enlarges old bytes e = (reading_of e ≡ joined_to old (enlarged old bytes)) × (valid_grammar e.grammar ≡ true)

-- the grammar that is given back is valid
kept-valid : (e : Enlarged) (r : Loading) → reading_of e ≡ r → valid_grammar r.grammar ≡ true → valid_grammar e.grammar ≡ true
kept-valid e r k v = ap (λ (x : Loading). valid_grammar x.grammar) k ∙ v

module _ (old : Grammar) (bytes : List ℕ) where
  pub joins-fault : valid_grammar old ≡ true → (e : Enlarged) (x : Fault) → faulty x ≡ enlarged old bytes → reading_of e ≡ fault_in old x
      → Enlarges old bytes e
  joins-fault v e x j r = (r ∙ ap (joined_to old) j, kept-valid e (fault_in old x) r v)

  pub joins-end : (e : Enlarged) (g : Grammar) → valid_grammar g ≡ true → with_depth g ≡ enlarged old bytes → reading_of e ≡ accepted_load g
      → Enlarges old bytes e
  unfolding with_depth accepted_load
  joins-end e g v j r = (r ∙ ap (joined_to old) j, kept-valid e (accepted_load g) r (set-depth-valid g v (depth_of (whole_of g))))

  -- no bytes
  none : length bytes ≡ 0 → faulty (record { number = 20; offset = 0 }) ≡ enlarged old bytes
  unfolding enlarged decide
  none z = rw (eq-eqb (length bytes) 0 z)

  pub joins-none : length bytes ≡ 0 → valid_grammar old ≡ true → (e : Enlarged)
      → reading_of e ≡ fault_in old (record { number = 20; offset = 0 }) → Enlarges old bytes e
  joins-none z v e r = joins-fault v e (record { number = 20; offset = 0 }) (none z) r
