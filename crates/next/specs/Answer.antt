-- What `next` answers over a filled chart. Assumes nothing.
use Rattle.std.specs.Prelude.{ℕ, List, [], ◌∷◌}
use Rattle.cfg.specs.Grammar.{Cfg}
use Rattle.results.specs.Answer.{refused, check, decide}
use Rattle.results.specs.Enumerate.{Enumeration}
use Rattle.results.specs.Measure.{unlisted}
use Rattle.first_made.specs.Written.{enumeration_of}
use Rattle.next_made.specs.Made.{next_tree}

-- `next`: the derivation after the offered one or "none", or refusal 12 if the offered row is no derivation
abbrev pub next_filled : Cfg → List ℕ → List ℕ → List ℕ → List ℕ → Enumeration
next_filled G w offered chart out =
    decide (check (unlisted G w offered) 12 ∷ [])
    (λ n. enumeration_of (refused n) chart out)
    (λ _. next_tree G w offered chart out)
