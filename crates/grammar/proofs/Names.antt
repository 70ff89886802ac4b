-- The names of the used rules: after a rule is set, as words, and that check 8 keeps them apart. Assumes nothing.
use Prim.Native.Nat.{ℕ, zero, suc, ◌+◌, ◌-◌, ◌<◌}
use native.Mathlib.Decide.{dec_lt, ℕ_discrete}
use native.Mathlib.Nat.{le_of_suc-le-suc, not-suc-le-zero}
use native.Mathlib.Numerals.{add-one}
use native.Mathlib.Omega.{arith}
use mathlib.Core.Bool.{Bool, true, false, not}
use mathlib.Core.List.{List, [], ◌∷◌, map, head-eq_of_cons-eq, tail-eq_of_cons-eq}
use mathlib.Core.Logic.{◌≢◌, dite}
use mathlib.Core.Path.{◌≡◌, refl, sym, ap, ap₂, ◌∙◌}
use lib.Dec.{eqb}
use lib.ListN.{length, take, get_or, set, get_or-map, length-map}
use lib.Seq.{take-length, get_or-take, set-get_or, map-set_same}
use borrow.Author.Tests.{eq-eqb, ne_eqb, not-false}
use Rattle.laws.proofs.Bools.{and_parts}
use Rattle.theory_words.specs.Name.{valid_name, unnamed, allowed_name, has_name}
use Rattle.theory_words.specs.Telling.{DistinctNames}
use Rattle.names.specs.Word.{word_of, has_word}
use Rattle.names.proofs.Compared.{word-unnamed, words-compared}
use Rattle.grammar.specs.declared.Rule.{Rule}
use Rattle.grammar.specs.declared.Grammar.{Grammar}
use Rattle.grammar.specs.Valid.{all, valid_rule, distinct_names, valid_grammar}
use Rattle.grammar.specs.Zero.{no_rule}
use Rattle.grammar.proofs.Laws.{grammar-same-names}
use Rattle.grammar.proofs.Bounds.{rule-parts, grammar-parts, valid-each}
use Rattle.grammar.proofs.Apart.{free, not_free, free-front, distinct-set, distinct-front, distinct-refuses, distinct-at}

-- the name of a rule
abbrev pub name : Rule → List ℕ
name r = r.name

-- the names of the first n rules
abbrev pub first_names : ℕ → List Rule → List (List ℕ)
first_names n l = map name (take n l)

module _ {A B : Type 0} (f : A → B) where
  pub map-take : (l : List A) (n : ℕ) → map f (take n l) ≡ take n (map f l)
  map-take l zero = refl
  map-take [] (suc n) = refl
  map-take (a ∷ l) (suc n) = ap (λ (m : List B). f a ∷ m) (map-take l n)

  pub map-set : (l : List A) (q : ℕ) (v : A) → map f (set l q v) ≡ set (map f l) q (f v)
  map-set [] q v = refl
  map-set (a ∷ l) zero v = refl
  map-set (a ∷ l) (suc q) v = ap (λ (m : List B). f a ∷ m) (map-set l q v)

-- ---- a rule that is set

-- after the first q rules, one whose name is free beside theirs
pub names-set : (l : List Rule) (q : ℕ) (r : Rule) → distinct_names (first_names q l) ≡ true → free r.name (first_names q l) ≡ true
    → distinct_names (first_names (suc q) (set l q r)) ≡ true
names-set l q r h f =
    let e : first_names (suc q) (set l q r) ≡ take (suc q) (set (map name l) q r.name) =
    map-take name (set l q r) (suc q) ∙ ap (take (suc q)) (map-set name l q r) in
    rw e (distinct-set (map name l) q r.name (rw (sym (map-take name l q)) h) (rw (sym (map-take name l q)) f))

names-front : (l : List Rule) (q : ℕ) → distinct_names (first_names (suc q) l) ≡ true → distinct_names (first_names q l) ≡ true
names-front l q h = rw (map-take name l q) (distinct-front (map name l) q (rw (sym (map-take name l (suc q))) h))

-- in place of the last of n rules
pub names-last : (l : List Rule) (n : ℕ) (r : Rule) → 0 < n → distinct_names (first_names n l) ≡ true
    → free r.name (first_names (n - 1) l) ≡ true → distinct_names (first_names n (set l (n - 1) r)) ≡ true
names-last l zero r z h f = absurd (omega arith)
names-last l (suc q) r z h f = let p : suc q - 1 ≡ q = omega arith in rw p (names-set l q r (names-front l q h) (rw p at f))

-- in place of a rule of the same name
pub names-kept : (l : List Rule) (n q : ℕ) (r : Rule) → r.name ≡ (get_or l q no_rule).name → first_names n (set l q r) ≡ first_names n l
names-kept l n q r e = map-take name (set l q r) n ∙ ap (take n) (map-set_same name l q r no_rule e) ∙ sym (map-take name l n)

-- a name that none of n rules has is free beside all but the last
pub names-free : (l : List Rule) (n : ℕ) (x : List ℕ) → 0 < n → has_name x (first_names n l) ≡ false → free x (first_names (n - 1) l) ≡ true
names-free l zero x z h = absurd (omega arith)
names-free l (suc q) x z h =
    let p : suc q - 1 ≡ q = omega arith in
    rw (p, map-take name l q) (free-front x (map name l) q (not_free x (take (suc q) (map name l)) (rw (sym (map-take name l (suc q))) h)))

-- ---- distinct names

-- the name of a used rule
name-at : (l : List Rule) (n r : ℕ) → r < n → get_or (first_names n l) r [] ≡ (get_or l r no_rule).name
name-at l n r h = get_or-map name (take n l) r no_rule ∙ ap name (get_or-take n l r no_rule h)

pub distinct-names : (g : Grammar) → valid_grammar g ≡ true → DistinctNames g.count (λ r. (get_or g.rules r no_rule).name)
distinct-names g v = record {
  valid = λ r h. (rule-parts (get_or g.rules r no_rule) (valid-each g v r h)).4;
  distinct = same;
}
  where
    apart : (r s : ℕ) → r < s → s < g.count → unnamed (get_or g.rules r no_rule).name ≡ false
        → (get_or g.rules r no_rule).name ≡ (get_or g.rules s no_rule).name → ⊥
    apart r s h k u e =
        let p = name-at g.rules g.count r (omega arith) in
        let q = name-at g.rules g.count s k in
        distinct-at (first_names g.count g.rules) r s (grammar-parts g v).3 h (ap unnamed p ∙ u) (p ∙ e ∙ sym q)

    same : (r s : ℕ) → r < g.count → s < g.count → unnamed (get_or g.rules r no_rule).name ≡ false
        → (get_or g.rules r no_rule).name ≡ (get_or g.rules s no_rule).name → r ≡ s
    same r s h k u e = dite (ℕ_discrete r s) (λ d. d) (λ d. let n : r ≢ s = d in absurd (dite (dec_lt r s)
        (λ l. apart r s l k u e)
        (λ l. apart s r (omega arith) h (ap unnamed (sym e) ∙ u) (sym e))))

-- ---- names as words

-- a row that has the words of the first i names, and one more
pub words_more : (l : List Rule) (row : List ℕ) (i w : ℕ) → i < length l → i < length row → w ≡ word_of (get_or l i no_rule).name
    → take i row ≡ map word_of (first_names i l) → take (i + 1) (set row i w) ≡ map word_of (first_names (i + 1) l)
words_more l row i w m n e t = rw (add-one, e) (go l row i m n t)
  where
    go : (l : List Rule) (row : List ℕ) (i : ℕ) → i < length l → i < length row → take i row ≡ map word_of (first_names i l)
        → take (suc i) (set row i (word_of (get_or l i no_rule).name)) ≡ map word_of (first_names (suc i) l)
    go [] row i h k t = absurd (not-suc-le-zero h)
    go (r ∷ l) [] i h k t = absurd (not-suc-le-zero k)
    go (r ∷ l) (v ∷ row) zero h k t = refl
    go (r ∷ l) (v ∷ row) (suc i) h k t =
        ap₂ ◌∷◌ (head-eq_of_cons-eq t) (go l row i (le_of_suc-le-suc h) (le_of_suc-le-suc k) (tail-eq_of_cons-eq t))

allowed-each : (l : List Rule) → all valid_rule l ≡ true → (k : ℕ) → allowed_name (get_or (map name l) k []) ≡ true
unfolding all unnamed
allowed-each [] v k = refl
allowed-each (r ∷ l) v zero = (rule-parts r (and_parts (valid_rule r) (all valid_rule l) v).0).4
allowed-each (r ∷ l) v (suc k) = allowed-each l (and_parts (valid_rule r) (all valid_rule l) v).1 k

-- the word of a valid name is among those of n valid rules exactly if the name is among theirs
pub names-compared : (l : List Rule) (n : ℕ) (row : List ℕ) (x : List ℕ) → all valid_rule (take n l) ≡ true
    → take n row ≡ map word_of (first_names n l) → valid_name x ≡ true → has_word (word_of x) (take n row) ≡ has_name x (first_names n l)
names-compared l n row x v t e =
    ap (has_word (word_of x)) t ∙ words-compared x (first_names n l) e (allowed-each (take n l) v)

-- what the loop over the used rules l needs: the rules up to i are valid, the row has the words of those before i, and w is the word of rule i
module _ (l : List Rule) (i w : ℕ) (row : List ℕ) (b : Bool) (v : all valid_rule (take i l) ≡ true)
    (p : b ≡ valid_rule (get_or l i no_rule)) (q : not b ≡ false) (e : w ≡ word_of (get_or l i no_rule).name)
    (t : take i row ≡ map word_of (first_names i l)) where
  abbrev here : List ℕ
  here = (get_or l i no_rule).name

  unnamed_here : eqb w 0 ≡ unnamed here
  unnamed_here = ap (λ (x : ℕ). eqb x 0) e ∙ word-unnamed here

  -- a word that is not 0 is among those before exactly if the name is
  compared : (w ≡ 0 → ⊥) → has_word w (take i row) ≡ has_name here (first_names i l)
  compared z =
      let u : unnamed here ≡ false = sym unnamed_here ∙ ne_eqb w 0 z in
      let a = (rule-parts (get_or l i no_rule) (sym p ∙ not-false b q)).4 in
      ap (λ (x : ℕ). has_word x (take i row)) e ∙ names-compared l i row here v t (rw u at a)

  names-refused : (c : Bool) → i < length l → (w ≡ 0 → ⊥) → c ≡ has_word w (take i row) → c ≡ true → distinct_names (map name l) ≡ false
  names-refused c h z f y =
      let k = get_or-map name l i no_rule in
      let u : unnamed (get_or (map name l) i []) ≡ false = ap unnamed k ∙ sym unnamed_here ∙ ne_eqb w 0 z in
      let m : has_name (get_or (map name l) i []) (take i (map name l)) ≡ true =
      ap₂ has_name k (sym (map-take name l i)) ∙ sym (compared z) ∙ sym f ∙ y in
      rw take-length at (distinct-refuses (map name l) (length (map name l)) i (simp length-map h) u m)

  name_free : free here (first_names i l) ≡ true → distinct_names (first_names i l) ≡ true → distinct_names (first_names (i + 1) l) ≡ true
  name_free f d =
      let s : set l i (get_or l i no_rule) ≡ l = set-get_or l i no_rule in
      rw add-one (rw s at (names-set l i (get_or l i no_rule) d f))

  pub next-unnamed : w ≡ 0 → distinct_names (first_names i l) ≡ true → distinct_names (first_names (i + 1) l) ≡ true
  next-unnamed z = name_free (rw (sym unnamed_here ∙ eq-eqb w 0 z))

  pub next-named : (c : Bool) → (w ≡ 0 → ⊥) → c ≡ has_word w (take i row) → c ≡ false → distinct_names (first_names i l) ≡ true
      → distinct_names (first_names (i + 1) l) ≡ true
  next-named c z f y = name_free (not_free here (first_names i l) (sym (compared z) ∙ sym f ∙ y))

-- a used rule has the name of a rule before it
pub name-refused : (g : Grammar) (i w : ℕ) (row : List ℕ) (b : Bool) → all valid_rule (take i (take g.count g.rules)) ≡ true
    → b ≡ valid_rule (get_or (take g.count g.rules) i no_rule) → not b ≡ false → w ≡ word_of (get_or (take g.count g.rules) i no_rule).name
    → take i row ≡ map word_of (first_names i (take g.count g.rules)) → (c : Bool) → i < length (take g.count g.rules) → (w ≡ 0 → ⊥)
    → c ≡ has_word w (take i row) → c ≡ true → false ≡ valid_grammar g
name-refused g i w row b v p q e t c h z f y =
    grammar-same-names g (names-refused (take g.count g.rules) i w row b v p q e t c h z f y)
