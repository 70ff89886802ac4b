-- Slices of the input: put together, and taken apart. Assumes nothing.
use Prim.Native.Nat.{ℕ, suc, ◌+◌, ◌-◌, ◌≤◌, ◌<◌}
use mathlib.Core.List.{List, [], ◌∷◌, ◌++◌}
use mathlib.Core.Path.{◌≡◌, sym, ap, ◌∙◌}
use native.Mathlib.Omega.{arith}
use lib.ListN.{length, get_or, take, drop, length-append, take-append-drop}
use lib.Seq.{slice, slice-cons, length-slice, length-take-le, take-take, take-append-le, drop-append-le, take-append_seam, drop-append_seam}

pub slice-append : (a b n : ℕ) (w : List ℕ) → a ≤ b → b ≤ n → n ≤ length w → slice a b w ++ slice b n w ≡ slice a n w
slice-append a b n w h l m =
    let u = take n w in
    let e : take b u ≡ take b w = take-take b n w l in
    let p : length (take b u) ≡ b = ap length e ∙ length-take-le b w (omega arith) in
    ap (λ (x : List ℕ). drop a x ++ drop b u) (sym e)
    ∙ sym (drop-append-le a (take b u) (drop b u) (omega arith))
    ∙ ap (drop a) (take-append-drop b u)

-- if x ++ y is u ++ v, and x is as long as u, then x is u and y is v
pub append_inj : (x y u v : List ℕ) → length x ≡ length u → x ++ y ≡ u ++ v → (x ≡ u) × (y ≡ v)
append_inj x y u v l e = (
  sym (take-append_seam x y) ∙ ap (take (length x)) e ∙ ap (λ (n : ℕ). take n (u ++ v)) l ∙ take-append_seam u v,
  sym (drop-append_seam x y) ∙ ap (drop (length x)) e ∙ ap (λ (n : ℕ). drop n (u ++ v)) l ∙ drop-append_seam u v,
)

module _ (a n : ℕ) (w : List ℕ) (h : a ≤ n) (l : n ≤ length w) where
  pub slice-split : (x y : List ℕ) → x ++ y ≡ slice a n w
      → (a + length x ≤ n) × (x ≡ slice a (a + length x) w) × (y ≡ slice (a + length x) n w)
  slice-split x y e =
      let s : length x + length y ≡ n - a = sym (length-append x y) ∙ ap length e ∙ length-slice a n w l in
      let m : a + length x ≤ n = omega arith in
      let p : length x ≡ length (slice a (a + length x) w) = omega (arith, length-slice a (a + length x) w (omega arith)) in
      let q = append_inj x y (slice a (a + length x) w) (slice (a + length x) n w) p
      (e ∙ sym (slice-append a (a + length x) n w (omega arith) m l)) in
      (m, q.0, q.1)

  pub slice-nil : [] ≡ slice a n w → a ≡ n
  slice-nil e =
      let s : 0 ≡ n - a = ap length e ∙ length-slice a n w l in
      omega arith

  pub slice-head : (x : ℕ) (y : List ℕ) → x ∷ y ≡ slice a n w → (a < n) × (x ≡ get_or w a 0) × (y ≡ slice (suc a) n w)
  slice-head x y e =
      let s : suc (length y) ≡ n - a = ap length e ∙ length-slice a n w l in
      let m : a < n = omega arith in
      let p : x ∷ y ≡ get_or w a 0 ∷ slice (suc a) n w = e ∙ slice-cons a n w 0 m l in
      (m, ap (λ (z : List ℕ). get_or z 0 0) p, ap (drop 1) p)

-- a slice that ends inside v is a slice of v
pub slice-before : (i j : ℕ) (v u : List ℕ) → j ≤ length v → slice i j (v ++ u) ≡ slice i j v
slice-before i j v u h = ap (drop i) (take-append-le j v u h)
