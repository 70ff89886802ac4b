-- At the root the enumerator's forests are the derivations, so first, next and last among them are first, next and last in the list L.
-- Assumes nothing.
use Prim.Native.Nat.{ℕ}
use mathlib.Core.List.{List, [], ◌∷◌, ◌++◌, Memᴰ}
use mathlib.Core.Path.{◌≡◌, refl, sym, ◌∙◌}
use lib.ListN.{length}
use lib.Seq.{slice, take-length}
use Rattle.cfg.specs.Grammar.{Cfg}
use Rattle.cfg.specs.Tree.{Forest, code}
use Rattle.cfg.specs.Derivation.{Derivation, limit}
use Rattle.cfg.specs.Listing.{derivations, L}
use Rattle.theory_listing.proofs.Exact.{listed→derivation, derivation→listed, derivations-rising}
use Rattle.theory_listing.proofs.Rising.{rising→pairs}
use Rattle.theory_enumeration.specs.Rows.{Root}
use Rattle.theory_enumeration.specs.Order.{Coded, NoForest, Min, After, Last}
use Rattle.theory_enumeration.proofs.Free.{free-empty}
use Rattle.theory_enumeration.proofs.Listed.{Lists, lists-first, lists-none, lists-next, lists-last}

module _ (G : Cfg) (w : List ℕ) where
  slice-whole : slice 0 (length w) w ≡ w
  slice-whole = take-length w

  module _ (b : ℕ) where
    pub root→derivation : {t : Forest} → Root G b w t → Derivation G b w (code t)
    root→derivation {t} r = record {
      tree = t;
      parse = (r.fit, r.covers ∙ slice-whole);
      plain = r.plain;
      small = r.small;
      coded = refl;
    }

    pub derivation→root : {e : List ℕ} → Derivation G b w e → Coded (Root G b w) e
    derivation→root d = record {
      forest = d.tree;
      member = record {
        fit = d.parse.0;
        covers = d.parse.1 ∙ sym slice-whole;
        plain = d.plain;
        free = free-empty G (length w) d.tree;
        small = d.small;
      };
      coded = d.coded;
    }

    pub root_lists : Lists (Root G b w) (derivations G b w)
    root_lists = record {
      sorted = rising→pairs (derivations-rising G b w);
      coded = λ e i. derivation→root (listed→derivation G b w e i);
      listed = λ t r. derivation→listed G b w (code t) (root→derivation r);
    }

  pub root-first : {e : List ℕ} → Min (Root G limit w) e → (m : List (List ℕ)) × (L G w ≡ e ∷ m)
  root-first = lists-first (root_lists limit)

  pub root_none : NoForest (Root G limit w) → L G w ≡ []
  root_none = lists-none (root_lists limit)

  pub root-next : {d e : List ℕ} → Memᴰ d (L G w) → After (Root G limit w) d e → (x y : List (List ℕ)) × (L G w ≡ x ++ d ∷ e ∷ y)
  root-next = lists-next (root_lists limit)

  pub root-last : {d : List ℕ} → Memᴰ d (L G w) → Last (Root G limit w) d → (x : List (List ℕ)) × (L G w ≡ x ++ d ∷ [])
  root-last = lists-last (root_lists limit)
