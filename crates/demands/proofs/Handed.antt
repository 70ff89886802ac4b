-- What first and next hand out is in the list. Assumes nothing.
use Prim.Native.Nat.{ℕ}
use mathlib.Core.List.{List, [], ◌∷◌, Memᴰ}
use mathlib.Core.Option.{some, some-injective}
use mathlib.Core.Path.{◌≡◌, sym, ◌∙◌}
use Rattle.laws.proofs.Bools.{clash, by-test}
use Rattle.results.specs.Check.{same}
use Rattle.results.specs.Enumerate.{head_of, after_in}
use Rattle.results.proofs.Demand3.Rows.{after-here, after-later}

pub head_of-member : (l : List (List ℕ)) (e : List ℕ) → head_of l ≡ some e → Memᴰ e l
unfolding head_of
head_of-member [] e p = clash cc
head_of-member (d ∷ l) e p = Memᴰ.head (sym (some-injective d e p))

pub after_in-member : (o : List ℕ) (l : List (List ℕ)) (e : List ℕ) → after_in o l ≡ some e → Memᴰ e l
unfolding after_in
after_in-member o [] e p = clash cc
after_in-member o (d ∷ l) e p = Memᴰ.tail (by-test (same o d)
    (λ q. head_of-member l e (sym (after-here o d l q) ∙ p)) (λ q. after_in-member o l e (sym (after-later o d l q) ∙ p)))
