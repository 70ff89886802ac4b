-- What the loader hands back after a book that was read to its end, and after a fault. Assumes nothing.
use Prim.Native.Nat.{ℕ}
use mathlib.Core.Path.{◌≡◌, ap}
use Rattle.std.specs.Prelude.{Ok, Err}
use Rattle.cfg.specs.Nullable.{depth_of}
use Rattle.grammar.specs.declared.Grammar.{Grammar}
use Rattle.grammar.specs.Setters.{set_depth}
use Rattle.grammar.specs.View.{whole_of}
use Rattle.grammar.specs.Zero.{zero_grammar}
use Rattle.answers.specs.declared.Refusal.{Refusal}
use Rattle.answers.specs.Number.{number_of}
use Rattle.results.specs.Load.{accepted_load, refused_load}
use Rattle.load.specs.Answer.{loading_of}

pub refuses : (r : Refusal) (at : ℕ) (g : Grammar) → g ≡ zero_grammar
    → loading_of (record { outcome = Err (record { refusal = r; at = at }); grammar = g })
    ≡ refused_load (record { number = number_of r; offset = at })
unfolding refused_load
refuses r at g e = ap (λ (h : Grammar). loading_of (record { outcome = Err (record { refusal = r; at = at }); grammar = h })) e

pub accepts : (g : Grammar) (d : ℕ) → d ≡ depth_of (whole_of g)
    → loading_of (record { outcome = Ok tt; grammar = set_depth g d }) ≡ accepted_load g
unfolding accepted_load
accepts g d e = ap (λ (n : ℕ). loading_of (record { outcome = Ok tt; grammar = set_depth g n })) e
