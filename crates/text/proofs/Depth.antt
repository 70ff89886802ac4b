-- The nullable depth that a grammar holds does not change the text of an input. Assumes nothing.
use Prim.Native.Nat.{ℕ}
use mathlib.Core.List.{List}
use mathlib.Core.Path.{◌≡◌, refl}
use Rattle.grammar.specs.declared.Grammar.{Grammar}
use Rattle.grammar.specs.Setters.{set_depth}
use Rattle.grammar.specs.View.{dated}
use Rattle.text.specs.Text.{input_text}

pub text-depth : (g : Grammar) (d y : ℕ) (w : List ℕ) → input_text (dated (set_depth g d) y) w ≡ input_text (dated g y) w
unfolding input_text
text-depth g d y w = refl
