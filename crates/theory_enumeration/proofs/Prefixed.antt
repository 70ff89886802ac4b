-- The codes of one set of forests are those of another with the same numbers put before each: first, next and last carry over.
-- Assumes nothing.
use Prim.Native.Nat.{ℕ}
use mathlib.Core.List.{List, ◌++◌}
use mathlib.Core.Path.{◌≡◌, ap, ◌∙◌}
use Rattle.cfg.specs.Tree.{Forest, code}
use Rattle.theory_listing.proofs.Order.{≺-after}
use Rattle.theory_enumeration.specs.Order.{Coded, Min, After, Last}
use Rattle.theory_enumeration.proofs.Compare.{≺-cancel}

-- the codes of Q are those of P with p before them
pub record Prefixed (p : List ℕ) (P Q : Forest → Type 0) : Type 0 where
  pub up : (t : Forest) → P t → Coded Q (p ++ code t)
  pub down : (u : Forest) → Q u → (t : Forest) × P t × (code u ≡ p ++ code t)

module _ {p : List ℕ} {P Q : Forest → Type 0} (s : Prefixed p P Q) where
  pub prefixed-coded : {e : List ℕ} → Coded P e → Coded Q (p ++ e)
  prefixed-coded c =
      let d = s.up c.forest c.member in
      record { forest = d.forest; member = d.member; coded = d.coded ∙ ap (λ (x : List ℕ). p ++ x) c.coded }

  pub prefixed-first : {e : List ℕ} → Min P e → Min Q (p ++ e)
  prefixed-first m = record {
    found = prefixed-coded m.found;
    least = λ u q h. let (t, r, e) = s.down u q in m.least t r (≺-cancel p (rw e at h));
  }

  pub prefixed-last : {d : List ℕ} → Last P d → Last Q (p ++ d)
  prefixed-last n u q h = let (t, r, e) = s.down u q in n t r (≺-cancel p (rw e at h))

  pub prefixed-next : {d e : List ℕ} → After P d e → After Q (p ++ d) (p ++ e)
  prefixed-next a = record {
    found = prefixed-coded a.found;
    beyond = ≺-after p a.beyond;
    nearest = λ u q h k. let (t, r, e) = s.down u q in a.nearest t r (≺-cancel p (rw e at h)) (≺-cancel p (rw e at k));
  }
