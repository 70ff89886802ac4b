-- The bytes of the state, copied one by one. Assumes nothing.
use Prim.Native.Nat.{ℕ, ◌+◌, ◌-◌, ◌≤◌, ◌<◌}
use mathlib.Core.List.{List, [], ◌∷◌, ◌++◌}
use mathlib.Core.Path.{◌≡◌, sym, ap, ◌∙◌, subst}
use native.Mathlib.Nat.{le_antisymm}
use native.Mathlib.Numerals.{add-one}
use native.Mathlib.Omega.{arith}
use lib.ListN.{length, get_or, take, drop, set, replicate, length-append, length-replicate}
use lib.Seq.{take-suc, length-take-le}
use Rattle.std.proofs.lemmas.List.{drop-replicate}
use Rattle.sizes.specs.Sizes.{max_input}
use Rattle.fill_columns.proofs.Filling.{set_next}
use Rattle.results.specs.Recognize.{state_with, hand_of}
use Rattle.results.proofs.State.{state-is}

-- numbers, copied one by one over zeros
module _ (size : ℕ) (old : List ℕ) (long : length old ≡ size) where
  pub bytes-step : (i : ℕ) (bytes : List ℕ) → i < size → bytes ≡ take i old ++ drop i (replicate size 0)
      → set bytes i (get_or old i 0) ≡ take (i + 1) old ++ drop (i + 1) (replicate size 0)
  bytes-step i bytes h e =
      ap (λ (x : List ℕ). set x i (get_or old i 0)) e
      ∙ set_next (take i old) (replicate size 0) i (get_or old i 0) (length-take-le i old (omega arith))
      (omega (arith, length-replicate {A = ℕ} size 0))
      ∙ ap (λ (x : List ℕ). x ++ drop (i + 1) (replicate size 0))
      (sym (take-suc old i 0 (omega arith)) ∙ ap (λ (x : ℕ). take x old) (sym (add-one i)))

  -- the first n are copied
  pub bytes-done : (i n : ℕ) (bytes : List ℕ) → i ≤ n → n ≤ i → bytes ≡ take i old ++ drop i (replicate size 0)
      → bytes ≡ take n old ++ replicate (size - n) 0
  bytes-done i n bytes h l e =
      subst (λ (x : ℕ). bytes ≡ take x old ++ drop x (replicate size 0)) (le_antisymm h l) e
      ∙ ap (λ (x : List ℕ). take n old ++ x) (drop-replicate n size 0)

module _ (old : List ℕ) (long : length old ≡ max_input) where
  -- the state of the bytes that were copied
  pub front-state : (n y : ℕ) (points bytes : List ℕ) → n ≤ max_input → bytes ≡ take n old ++ replicate (max_input - n) 0
      → state_with bytes n y points ≡ hand_of (take n old) points y
  front-state n y points bytes l e =
      let s : length (take n old) ≡ n = length-take-le n old (omega arith) in
      state-is (take n old) points y bytes n (e ∙ ap (λ (x : ℕ). take n old ++ replicate (max_input - x) 0) (sym s)) (sym s)

  -- the state with one more byte
  pub byte-state : (n b y : ℕ) (points bytes : List ℕ) → n < max_input → bytes ≡ take n old ++ replicate (max_input - n) 0
      → state_with (set bytes n b) (n + 1) y points ≡ hand_of (take n old ++ (b ∷ [])) points y
  byte-state n b y points bytes m e =
      let s : length (take n old ++ (b ∷ [])) ≡ n + 1 =
      length-append (take n old) (b ∷ []) ∙ ap (λ (x : ℕ). x + 1) (length-take-le n old (omega arith)) in
      let q : set bytes n b ≡ (take n old ++ (b ∷ [])) ++ replicate (max_input - length (take n old ++ (b ∷ []))) 0 =
      ap (λ (x : List ℕ). set x n b) (e ∙ ap (λ (x : List ℕ). take n old ++ x) (sym (drop-replicate n max_input 0)))
      ∙ set_next (take n old) (replicate max_input 0) n b (length-take-le n old (omega arith)) m
      ∙ ap (λ (x : List ℕ). (take n old ++ (b ∷ [])) ++ x) (drop-replicate (n + 1) max_input 0)
      ∙ ap (λ (x : ℕ). (take n old ++ (b ∷ [])) ++ replicate (max_input - x) 0) (sym s) in
      state-is (take n old ++ (b ∷ [])) points y (set bytes n b) (n + 1) q (sym s)
