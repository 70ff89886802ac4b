-- The row of the names of a grammar's rules, name by name. Assumes nothing.
use Prim.Native.Nat.{ℕ, ◌+◌, ◌*◌, ◌≤◌, ◌<◌}
use native.Mathlib.Decide.{dec_lt}
use native.Mathlib.Omega.{arith}
use mathlib.Core.List.{List, ◌++◌}
use mathlib.Core.Logic.{dite}
use mathlib.Core.Path.{◌≡◌, sym, ap, subst, ◌∙◌}
use lib.ListN.{length, get_or, take, drop, drop_of_length-le, get_or-eq_default}
use lib.Seq.{take-add, take-take, take-nil, take-append-le, drop_at, length-take-le}
use mir.Val.{Val}
use denote.Laws.{Is}
use Rattle.sizes.specs.Sizes.{max_rules}
use Rattle.theory_words.specs.Name.{name_size}
use Rattle.grammar.specs.declared.Rule.{Rule}
use Rattle.grammar.specs.Zero.{no_rule}
use Rattle.grammar.specs.contracts.Rule as R
use Rattle.print_number.specs.Put.{Put}
use Rattle.words_text.specs.Names.{names_size, name_in}

-- a name has eight bytes, since its type is declared
module _ (r : Rule) (vs : List Val) (known : Is R.the_row r vs) where
  pub name-long : length r.name ≡ name_size
  name-long = known.1.1.1.1.1.1.1.1.0.1.0.1

  pub name-room : (at m : ℕ) → at + name_size ≤ m → at + length r.name ≤ m
  name-room at m h = omega (arith, name-long)

-- a part of a list is the end of a front
part : (l : List ℕ) (m n : ℕ) → m ≤ length l → take n (drop m l) ≡ drop m (take (m + n) l)
part l m n h = sym (ap (drop m) (take-add m n l) ∙ drop_at (take m l) (take n (drop m l)) m (length-take-le m l h))

-- ---- one name more

module _ (name names names' : List ℕ) (r at end : ℕ) (low : r < max_rules) (full : length names ≡ names_size) (begins : at ≡ name_size * r)
    (put : Put name at end names names') (size : length name ≡ name_size) where
  full' : length names' ≡ names_size
  full' = put.long ∙ full

  -- the front of the row up to the end of the name
  front : (n : ℕ) → n ≤ end → take n names' ≡ take n (take at names ++ name)
  front n h = sym (take-take n end names' h) ∙ ap (take n) put.front

  name-here : name_in names' r ≡ name
  unfolding name_in
  name-here =
      let e : name_size * r + name_size ≡ end = omega (arith, put.grown) in
      let l = length-take-le at names (omega arith) in
      part names' (name_size * r) name_size (omega (arith, full'))
      ∙ ap (λ (k : ℕ). drop (name_size * r) (take k names')) e
      ∙ ap (drop (name_size * r)) put.front
      ∙ drop_at (take at names) name (name_size * r) (l ∙ begins)

  name-before : (i : ℕ) → i < r → name_in names' i ≡ name_in names i
  unfolding name_in
  name-before i h =
      let n = name_size * i + name_size in
      let l = length-take-le at names (omega arith) in
      part names' (name_size * i) name_size (omega (arith, full'))
      ∙ ap (drop (name_size * i)) (front n (omega (arith, put.grown)) ∙ take-append-le n (take at names) name (omega arith)
      ∙ take-take n at names (omega arith))
      ∙ sym (part names (name_size * i) name_size (omega arith))

-- ---- the loop

-- the names of the rules before r are written, and the next one begins at `at`
pub record NamesTo (rules : List Rule) (names : List ℕ) (at r : ℕ) : Type 0 where
  pub full : length names ≡ names_size
  pub begins : at ≡ name_size * r
  pub known : (i : ℕ) → i < r → name_in names i ≡ (get_or rules i no_rule).name

module _ (rules : List Rule) (names : List ℕ) (at r : ℕ) (so_far : NamesTo rules names at r) where
  pub names-next : (names' : List ℕ) (end : ℕ) → r < max_rules
      → Put (get_or rules r no_rule).name at end names names' × (length (get_or rules r no_rule).name ≡ name_size)
      → NamesTo rules names' end (r + 1)
  names-next names' end low (put, size) =
      let name = (get_or rules r no_rule).name in
      record {
        full = put.long ∙ so_far.full;
        begins = omega (arith, put.grown, so_far.begins);
        known = λ i h. dite (dec_lt i r)
            (λ k. name-before name names names' r at end low so_far.full so_far.begins put size i k ∙ so_far.known i k)
            (λ k. let e : r ≡ i = omega arith in
            subst (λ (j : ℕ). name_in names' j ≡ (get_or rules j no_rule).name) e
            (name-here name names names' r at end low so_far.full so_far.begins put size));
      }

  -- past the last rule there is no name
  name-beyond : length rules ≡ max_rules → (i : ℕ) → max_rules ≤ i → name_in names i ≡ (get_or rules i no_rule).name
  unfolding name_in
  name-beyond long i h =
      ap (take name_size) (drop_of_length-le names {i = name_size * i} (omega (arith, so_far.full))) ∙ take-nil name_size
      ∙ sym (ap (λ (ρ : Rule). ρ.name) (get_or-eq_default rules no_rule {n = i} (omega arith)))

  pub names-done : length rules ≡ max_rules → max_rules ≤ r
      → (length names ≡ names_size) × ((i : ℕ) → name_in names i ≡ (get_or rules i no_rule).name)
  names-done long end = (
    so_far.full,
    λ i. dite (dec_lt i max_rules) (λ h. so_far.known i (omega arith)) (λ h. name-beyond long i (omega arith)),
  )
