-- What is written, piece after piece. Assumes nothing.
use Prim.Native.Nat.{ℕ, zero, suc, ◌+◌, ◌≤◌, ◌<◌}
use native.Mathlib.Omega.{arith}
use mathlib.Core.Bool.{Bool, true, false}
use mathlib.Core.List.{List, [], ◌∷◌, ◌++◌}
use mathlib.Core.Path.{◌≡◌, refl}
use lib.ListN.{length}
use Rattle.packed.specs.Packed.{is_nonterminal_in, symbol_in}
use Rattle.theory_words.specs.Words.{opening, comma}
use Rattle.print_number.specs.Put.{Put}
use Rattle.print_number.proofs.Writing.{put-none, put-append, put_same}
use Rattle.words_write.specs.declared.Cursor.{Cursor}
use Rattle.words_write.specs.declared.Place.TheVariants.{Leaf, Node}
use Rattle.words_write.specs.Cursor.{CursorMoved, look_of, comma_before}

pub moved-append : {x y : List ℕ} {n m k l : ℕ} {a b c : Cursor} {o₁ o₂ o₃ : List ℕ} → CursorMoved x n m a b o₁ o₂
    → CursorMoved y k l b c o₂ o₃
    → CursorMoved (x ++ y) (n + k) (m + l) a c o₁ o₃
moved-append f g =
    record {
      put = put-append f.put g.put;
      nodes = omega (arith, f.nodes, g.nodes);
      bytes = omega (arith, f.bytes, g.bytes);
    }

pub moved_same : {x y : List ℕ} {n m k l : ℕ} {a b : Cursor} {o₁ o₂ : List ℕ} → x ≡ y → n ≡ k → m ≡ l → CursorMoved x n m a b o₁ o₂
    → CursorMoved y k l a b o₁ o₂
moved_same e p q f =
    record { put = put_same e f.put; nodes = omega (arith, f.nodes); bytes = omega (arith, f.bytes) }

-- ---- the functions below `put_node`

module _ (p : List ℕ) (r q : ℕ) (b : Bool) (told : b ≡ is_nonterminal_in p r q) where
  pub look-node : b ≡ true → Node ≡ look_of (symbol_in p r q)
  unfolding symbol_in
  look-node h = rw (← told, h)

  pub look-leaf : b ≡ false → Leaf ≡ look_of (symbol_in p r q)
  unfolding symbol_in
  look-leaf h = rw (← told, h)

pub comma-none : (q at : ℕ) (o : List ℕ) → q ≡ 0 → Put (comma_before q) at at o o
unfolding comma_before
comma-none zero at o h = put-none at at o refl
comma-none (suc q) at o h = absurd (omega arith)

pub comma-room : (q at m : ℕ) → (q ≡ 0 → ⊥) → at + length (comma_before q) ≤ m → at < m
unfolding comma_before
comma-room zero at m h l = absurd (h refl)
comma-room (suc q) at m h l = omega arith

pub comma-put : (q at end : ℕ) (o₁ o₂ : List ℕ) → (q ≡ 0 → ⊥) → Put (comma ∷ []) at end o₁ o₂ → Put (comma_before q) at end o₁ o₂
unfolding comma_before
comma-put zero at end o₁ o₂ h p = absurd (h refl)
comma-put (suc q) at end o₁ o₂ h p = p

pub open-put : (x : List ℕ) (at mid end : ℕ) (o₁ o₂ o₃ : List ℕ) → Put x at mid o₁ o₂ → Put (opening ∷ []) mid end o₂ o₃
    → Put (x ++ (opening ∷ [])) at end o₁ o₃
open-put x at mid end o₁ o₂ o₃ f g = put-append f g
