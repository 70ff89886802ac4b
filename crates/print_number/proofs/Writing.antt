-- Bytes written into a buffer: nothing, one byte, one piece after another. Assumes nothing.
use Prim.Native.Nat.{ℕ, ◌+◌, ◌≤◌, ◌<◌}
use native.Mathlib.Numerals.{add-one}
use native.Mathlib.Omega.{arith}
use mathlib.Core.List.{List, [], ◌∷◌, ◌++◌, append_assoc, append-nil}
use mathlib.Core.Path.{◌≡◌, refl, sym, ap, subst, ◌∙◌}
use lib.ListN.{length, get_or, take, drop, set, length-set, length-append}
use lib.Seq.{take-suc, take-suc-set, take_all, drop-set-lt, drop-drop}
use Rattle.print_number.specs.Put.{Put}

pub put-none : (at end : ℕ) (o : List ℕ) → end ≡ at → Put [] at end o o
put-none at end o e = record {
  long = refl;
  grown = omega arith;
  front = ap (λ (k : ℕ). take k o) e ∙ sym (append-nil (take at o));
  back = refl;
}

pub put_one : (b at : ℕ) (o : List ℕ) → at < length o → Put (b ∷ []) at (at + 1) o (set o at b)
put_one b at o h = record {
  long = length-set o at b;
  grown = refl;
  front = ap (λ (k : ℕ). take k (set o at b)) (add-one at) ∙ take-suc-set o at b h;
  back = drop-set-lt (at + 1) o at b (omega arith);
}

-- one piece after another
pub put-append : {x y : List ℕ} {at mid end : ℕ} {o₁ o₂ o₃ : List ℕ} → Put x at mid o₁ o₂ → Put y mid end o₂ o₃
    → Put (x ++ y) at end o₁ o₃
put-append {x} {y} {at} {mid} {end} {o₁} {o₂} p q =
    let e : mid + length y ≡ end = sym q.grown in
    record {
      long = q.long ∙ p.long;
      grown = omega (arith, p.grown, q.grown, length-append x y);
      front = q.front ∙ ap (λ (l : List ℕ). l ++ y) p.front ∙ append_assoc (take at o₁) x y;
      back =
          q.back ∙ ap (λ k. drop k o₂) q.grown ∙ sym (drop-drop (length y) mid o₂) ∙ ap (drop (length y)) p.back
          ∙ drop-drop (length y) mid o₁ ∙ ap (λ k. drop k o₁) e;
    }

pub put_same : {x y : List ℕ} {at end : ℕ} {o₁ o₂ : List ℕ} → x ≡ y → Put x at end o₁ o₂ → Put y at end o₁ o₂
put_same {at = at} {end} {o₁} {o₂} e p = subst (λ (l : List ℕ). Put l at end o₁ o₂) e p

-- ---- bytes, one after the other

module _ (s : List ℕ) (at : ℕ) (o₀ o : List ℕ) (i n : ℕ) (e : n ≡ length s) (p : Put (take i s) at (at + i) o₀ o) where
  pub bytes-step : i < n → at + length s ≤ length o₀ → Put (take (i + 1) s) at (at + (i + 1)) o₀ (set o (at + i) (get_or s i 0))
  bytes-step h l =
      let d : at + i + 1 ≡ at + (i + 1) = omega arith in
      subst (λ (k : ℕ). Put (take (i + 1) s) at k o₀ (set o (at + i) (get_or s i 0))) d
      (put_same (sym (take-suc s i 0 (omega arith)) ∙ ap (λ (k : ℕ). take k s) (sym (add-one i)))
      (put-append p (put_one (get_or s i 0) (at + i) o (omega arith))))

  pub bytes-done : i ≤ n → n ≤ i → Put s at (at + n) o₀ o
  bytes-done h l =
      let d : i ≡ n = omega arith in
      put_same (take_all i s (omega arith)) (subst (λ (k : ℕ). Put (take i s) at (at + k) o₀ o) d p)
