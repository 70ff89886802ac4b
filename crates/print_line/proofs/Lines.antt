-- The pieces of the lines, one after the other, and the room for each. Assumes nothing.
use Prim.Native.Nat.{ℕ, zero, suc, ◌+◌, ◌*◌, ◌≤◌, ◌<◌}
use native.Mathlib.Numerals.{add-one}
use native.Mathlib.Omega.{arith}
use mathlib.Core.Bool.{true}
use mathlib.Core.List.{List, [], ◌∷◌, ◌++◌, append_assoc, append-nil}
use mathlib.Core.Path.{◌≡◌, refl, sym, ap, ◌∙◌}
use lib.Dec.{leb}
use lib.IntN.{ℤ}
use lib.ListN.{length, get_or, take}
use lib.Seq.{take-suc, length-take-le}
use lib.Signed.{mag}
use borrow.Author.Tests.{leb-true}
use mir.Syntax.{w32}
use Rattle.sizes.specs.Sizes.{max_nodes, most}
use Rattle.numbers.proofs.Signs.{kept, through}
use Rattle.results.specs.Answer.{counted}
use Rattle.text.specs.Number.{decimal, signed_decimal}
use Rattle.text.specs.Line.{newline, space, point, colon, equals, parts, length_end, line, readings_word, refused_line, readings_line}
use Rattle.print_number.specs.Put.{Put, max_tenths}
use Rattle.print_number.proofs.Writing.{put-append, put_same}
use Rattle.print_number.proofs.Decimal.{digits-16}
use Rattle.print_line.specs.Sizes.{node_size, line_size}

-- ---- a node: room for each piece, and the node written

module _ (cover at a : ℕ) (o₁ o₂ : List ℕ) (room : at + node_size ≤ length o₁) (h : cover < 65536) (p : Put (space ∷ []) at a o₁ o₂) where
  pub room-cover : a + length (decimal cover) ≤ length o₂
  room-cover = omega (arith, digits-16 cover h)

  module _ (b : ℕ) (o₃ : List ℕ) (q : Put (decimal cover) a b o₂ o₃) where
    pub room-point : b < length o₃
    room-point = omega (arith, digits-16 cover h)

    module _ (rule c : ℕ) (o₄ : List ℕ) (k : rule < 65536) (r : Put (point ∷ []) b c o₃ o₄) where
      module _ (end : ℕ) (o₅ : List ℕ) (s : Put (decimal rule) c end o₄ o₅) where
        pub node_done : Put ((space ∷ decimal cover) ++ (point ∷ decimal rule)) at end o₁ o₅
        node_done = put-append (put-append p q) (put-append r s)

        pub node-small : end ≤ at + node_size
        node-small = omega (arith, digits-16 cover h, digits-16 rule k)

-- ---- the nodes

parts-append : (i : ℕ) (x y : List ℕ) → length x ≡ 2 * i → parts (x ++ y) ≡ parts x ++ parts y
unfolding parts
parts-append zero [] y e = refl
parts-append zero (a ∷ x) y e = absurd (omega arith)
parts-append (suc i) [] y e = absurd (omega arith)
parts-append (suc i) (a ∷ []) y e = absurd (omega arith)
parts-append (suc i) (a ∷ b ∷ x) y e =
    ap (λ (z : List ℕ). ((space ∷ decimal a) ++ (point ∷ decimal b)) ++ z) (parts-append i x y (omega arith))
    ∙ sym (append_assoc ((space ∷ decimal a) ++ (point ∷ decimal b)) (parts x) (parts y))

parts-pair : (a b : ℕ) → parts (a ∷ b ∷ []) ≡ (space ∷ decimal a) ++ (point ∷ decimal b)
unfolding parts
parts-pair a b = append-nil ((space ∷ decimal a) ++ (point ∷ decimal b))

take-pair : (e : List ℕ) (n : ℕ) → n + 1 < length e → take (suc (suc n)) e ≡ take n e ++ (get_or e n 0 ∷ get_or e (n + 1) 0 ∷ [])
take-pair e n h =
    take-suc e (suc n) 0 (omega arith)
    ∙ ap (λ (x : List ℕ). x ++ (get_or e (suc n) 0 ∷ [])) (take-suc e n 0 (omega arith))
    ∙ append_assoc (take n e) (get_or e n 0 ∷ []) (get_or e (suc n) 0 ∷ [])
    ∙ ap (λ (k : ℕ). take n e ++ (get_or e n 0 ∷ get_or e k 0 ∷ [])) (sym (add-one n))

parts_more : (e : List ℕ) (i : ℕ) → 2 * i + 1 < length e
    → parts (take (2 * i) e) ++ ((space ∷ decimal (get_or e (2 * i) 0)) ++ (point ∷ decimal (get_or e (2 * i + 1) 0)))
    ≡ parts (take (2 * (i + 1)) e)
parts_more e i h =
    let d : suc (suc (2 * i)) ≡ 2 * (i + 1) = omega arith in
    ap (λ (x : List ℕ). parts (take (2 * i) e) ++ x) (sym (parts-pair (get_or e (2 * i) 0) (get_or e (2 * i + 1) 0)))
    ∙ sym (parts-append i (take (2 * i) e) (get_or e (2 * i) 0 ∷ get_or e (2 * i + 1) 0 ∷ []) (length-take-le (2 * i) e (omega arith)))
    ∙ ap parts (sym (take-pair e (2 * i) h)) ∙ ap (λ (k : ℕ). parts (take k e)) d

pub nodes-step : (e : List ℕ) (i m at mid end : ℕ) (o₁ o₂ o₃ : List ℕ) → i < m → 2 * m ≤ length e
    → Put (parts (take (2 * i) e)) at mid o₁ o₂
    → Put ((space ∷ decimal (get_or e (2 * i) 0)) ++ (point ∷ decimal (get_or e (2 * i + 1) 0))) mid end o₂ o₃
    → Put (parts (take (2 * (i + 1)) e)) at end o₁ o₃
nodes-step e i m at mid end o₁ o₂ o₃ h k p q = put_same (parts_more e i (omega arith)) (put-append p q)

pub nodes-done : (e : List ℕ) (i m at end : ℕ) (o₁ o₂ : List ℕ) → i ≤ m → m ≤ i → Put (parts (take (2 * i) e)) at end o₁ o₂
    → Put (parts (take (2 * m) e)) at end o₁ o₂
nodes-done e i m at end o₁ o₂ h k p =
    let d : i ≡ m = omega arith in
    put_same (ap (λ (j : ℕ). parts (take (2 * j) e)) d) p

-- ---- the line of a derivation

-- each call passes the length through 32 bits
pub through-size : (z : ℤ) → mag z ≤ max_tenths → mag (kept w32 z) ≤ max_tenths
through-size z h = rw (through z (omega arith)) h

pub end-done : (z : ℤ) (at a b end : ℕ) (o₁ o₂ o₃ o₄ : List ℕ) → mag z ≤ max_tenths → Put (space ∷ equals ∷ space ∷ []) at a o₁ o₂
    → Put (signed_decimal (kept w32 z)) a b o₂ o₃ → Put (newline ∷ []) b end o₃ o₄ → Put (length_end z) at end o₁ o₄
unfolding length_end
end-done z at a b end o₁ o₂ o₃ o₄ h p q r = put-append (put-append p (put_same (ap signed_decimal (through z (omega arith))) q)) r

module _ (place : ℕ) (o₁ : List ℕ) (few : place ≤ most) (room : line_size ≤ length o₁) where
  pub room-place : 0 + length (decimal place) ≤ length o₁
  room-place = omega (arith, digits-16 place (omega arith))

  module _ (a : ℕ) (o₂ : List ℕ) (p : Put (decimal place) 0 a o₁ o₂) where
    pub room-colon : a < length o₂
    room-colon = omega (arith, digits-16 place (omega arith))

    module _ (b m : ℕ) (o₃ : List ℕ) (short : m ≤ max_nodes) (q : Put (colon ∷ []) a b o₂ o₃) where
      pub room-nodes : b + node_size * m ≤ length o₃
      room-nodes = omega (arith, digits-16 place (omega arith))

pub line-done : (place : ℕ) (e : List ℕ) (z : ℤ) (a b c end : ℕ) (o₁ o₂ o₃ o₄ o₅ : List ℕ) → mag z ≤ max_tenths
    → Put (decimal place) 0 a o₁ o₂ → Put (colon ∷ []) a b o₂ o₃ → Put (parts e) b c o₃ o₄
    → Put (length_end (kept w32 z)) c end o₄ o₅ → Put (line place e z) 0 end o₁ o₅
unfolding line
line-done place e z a b c end o₁ o₂ o₃ o₄ o₅ h p q r s =
    put-append (put-append p (put-append q r)) (put_same (ap length_end (through z (omega arith))) s)

-- ---- lines of a word, a number and a newline: room for number and newline, and the line written

module _ (x : List ℕ) (n a : ℕ) (o₁ o₂ : List ℕ) (p : Put x 0 a o₁ o₂) (room : line_size ≤ length o₁) (word : leb (length x) 9 ≡ true) where
  pub room-number : n ≤ most → a + length (decimal n) ≤ length o₂
  room-number few = omega (arith, leb-true (length x) 9 word, digits-16 n (omega arith))

  pub room-byte : n < 256 → a + length (decimal n) ≤ length o₂
  room-byte small = room-number (omega arith)

  module _ (b : ℕ) (o₃ : List ℕ) (q : Put (decimal n) a b o₂ o₃) where
    pub newline-after-number : n ≤ most → b < length o₃
    newline-after-number few = omega (arith, leb-true (length x) 9 word, digits-16 n (omega arith))

    pub newline-after-byte : n < 256 → b < length o₃
    newline-after-byte small = newline-after-number (omega arith)

pub refused-done : (n a b end : ℕ) (o₁ o₂ o₃ o₄ : List ℕ)
    → Put (0x52 ∷ 0x45 ∷ 0x46 ∷ 0x55 ∷ 0x53 ∷ 0x45 ∷ 0x44 ∷ space ∷ []) 0 a o₁ o₂ → Put (decimal n) a b o₂ o₃
    → Put (newline ∷ []) b end o₃ o₄ → Put (refused_line n) 0 end o₁ o₄
unfolding refused_line
refused-done n a b end o₁ o₂ o₃ o₄ p q r = put-append (put-append p q) r

pub readings-done : (n a b end : ℕ) (o₁ o₂ o₃ o₄ : List ℕ) → Put readings_word 0 a o₁ o₂ → Put (decimal n) a b o₂ o₃
    → Put (newline ∷ []) b end o₃ o₄ → Put (readings_line (counted n)) 0 end o₁ o₄
unfolding readings_line
readings-done n a b end o₁ o₂ o₃ o₄ p q r = put-append (put-append p q) r
