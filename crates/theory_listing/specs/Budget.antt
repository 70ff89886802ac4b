-- The elements of a list that pass a test, and the test of a row of numbers against a budget of nodes. Assumes nothing.
use Rattle.std.specs.Prelude.{ℕ, ◌*◌, Bool, true, false, List, [], ◌∷◌, leb, length}

-- the elements that pass the test, in their order
unfoldable pub filter : {A : Type 0} → (A → Bool) → List A → List A
filter p [] = []
filter p (a ∷ l) = elim (p a) [ true ↦ a ∷ filter p l | false ↦ filter p l ]

-- whether the row is no longer than the code of b nodes: two numbers for each node
unfoldable pub within_budget : ℕ → List ℕ → Bool
within_budget b e = leb (length e) (2 * b)
