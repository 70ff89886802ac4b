-- An offered row is a derivation exactly if the walk finds one node over the whole row and the whole input: the answer of `is_derivation`.
-- Assumes nothing.
use Prim.Native.Nat.{ℕ, ◌*◌, ◌/◌, ◌%◌, ◌≤◌, ◌<◌}
use mathlib.Core.Bool.{Bool, true, false, true≢false}
use mathlib.Core.List.{List, [], ◌∷◌, ◌++◌, append-nil}
use mathlib.Core.Path.{◌≡◌, refl, sym, ap, subst, ◌∙◌}
use native.Mathlib.Decide.{ℕ_discrete, dec_lt}
use native.Mathlib.Omega.{arith}
use lib.Dec.{eqb}
use lib.ListN.{length, drop, drop_of_length-le}
use lib.Seq.{take-length}
use borrow.Author.Tests.{eq-eqb, ne_eqb}
use Rattle.sizes.specs.Sizes.{too_many, output_size}
use Rattle.sets.proofs.Laws.{has-empty}
use Rattle.cfg.specs.Grammar.{Cfg, nonterminal}
use Rattle.cfg.specs.Tree.{nodes, code}
use Rattle.cfg.specs.Derivation.{Derivation, limit}
use Rattle.cfg.specs.Listing.{L}
use Rattle.theory_listing.proofs.Unique.{length-code}
use Rattle.theory_listing.proofs.Exact.{listed→derivation, derivation→listed, derivation-length}
use Rattle.theory_embedding.specs.Embedding.{RulesIn}
use Rattle.theory_embedding.proofs.Same.{fits-same, superfluous-same}
use Rattle.packed.specs.Packed.{cfg_in}
use Rattle.results.specs.Check.{listed}
use Rattle.results.proofs.Demand3.Rows.{listed-member, member-listed}
use Rattle.check_walk.specs.Walk.{Walked, Answers}
use Rattle.check_walk.proofs.Walks.{walk-unique}

-- ---- the test `listed` in terms of derivations

module _ (G : Cfg) (w e : List ℕ) where
  pub listed-derivation : listed e (L G w) ≡ true → Derivation G limit w e
  listed-derivation h = listed→derivation G limit w e (listed-member e (L G w) h)

  pub derivation-listed : Derivation G limit w e → true ≡ listed e (L G w)
  derivation-listed d = sym (member-listed e (derivation→listed G limit w e d))

  pub none-listed : (Derivation G limit w e → ⊥) → false ≡ listed e (L G w)
  none-listed f = go (listed e (L G w)) refl
    where
      go : (b : Bool) → listed e (L G w) ≡ b → false ≡ listed e (L G w)
      go true h = absurd (f (listed-derivation h))
      go false h = sym h

  derivation-length-nodes : (d : Derivation G limit w e) → length e ≡ 2 * nodes d.tree
  derivation-length-nodes d = ap length (sym d.coded) ∙ length-code d.tree

  pub long-unlisted : output_size < length e → false ≡ listed e (L G w)
  long-unlisted h = none-listed (λ d. let l = derivation-length G limit w e d in omega arith)

  pub odd-unlisted : length e % 2 ≡ 1 → false ≡ listed e (L G w)
  odd-unlisted h = none-listed (λ d. let l = derivation-length-nodes d in omega arith)

-- ---- the whole input and the whole offered derivation

module _ (p w e : List ℕ) (start : ℕ) where
  -- the walk finds one node over the whole row and the whole input
  abbrev Top : ℕ → Type 0
  Top = Walked (cfg_in 0 p) w e (length e / 2) (length w) 0 (nonterminal start ∷ []) 0 0 (length w)

  -- another start symbol changes no rule
  rules-up : RulesIn (λ r. r) (cfg_in 0 p) (cfg_in start p)
  unfolding cfg_in
  rules-up r ρ here = here

  rules-down : RulesIn (λ r. r) (cfg_in start p) (cfg_in 0 p)
  unfolding cfg_in
  rules-down r ρ here = here

  top→derivation : length e ≤ output_size → length e ≡ 2 * (length e / 2) → Top (length e / 2) → Derivation (cfg_in start p) limit w e
  unfolding cfg_in
  top→derivation short even a =
      let l = a.ends in
      let none : drop (2 * (length e / 2)) e ≡ [] = drop_of_length-le e {i = 2 * (length e / 2)} (omega arith) in
      record {
        tree = a.forest;
        parse = (fits-same (cfg_in 0 p) (cfg_in start p) rules-up a.fit, a.covers ∙ take-length w);
        plain = λ s. a.plain (superfluous-same (cfg_in 0 p) (cfg_in start p) rules-up a.fit s);
        small = omega arith;
        coded = sym (append-nil (code a.forest)) ∙ ap (λ (l : List ℕ). code a.forest ++ l) (sym none) ∙ a.coded;
      }

  derivation→top : Derivation (cfg_in start p) limit w e → Top (length e / 2)
  unfolding cfg_in
  derivation→top d =
      let h = derivation-length-nodes (cfg_in start p) w e d in
      let none : drop (2 * (length e / 2)) e ≡ [] = drop_of_length-le e {i = 2 * (length e / 2)} (omega arith) in
      record {
        forest = d.tree;
        fit = fits-same (cfg_in start p) (cfg_in 0 p) rules-down d.parse.0;
        plain = λ s. d.plain (superfluous-same (cfg_in start p) (cfg_in 0 p) rules-down d.parse.0 s);
        free = λ k m _. true≢false (sym m ∙ has-empty k);
        covers = d.parse.1 ∙ sym (take-length w);
        coded = ap (λ (l : List ℕ). code d.tree ++ l) none ∙ append-nil (code d.tree) ∙ d.coded;
        ends = omega arith;
        inside = omega arith;
      }

  pub whole-listed : (next : ℕ) → length e ≤ output_size → (length e % 2 ≡ 1 → ⊥) → Answers Top too_many next
      → eqb next (length e / 2) ≡ listed e (L (cfg_in start p) w)
  whole-listed next short odd a = go (ℕ_discrete next (length e / 2))
    where
      even : length e ≡ 2 * (length e / 2)
      even = omega arith

      go : Dec (next ≡ length e / 2) → eqb next (length e / 2) ≡ listed e (L (cfg_in start p) w)
      go (yes h) =
          eq-eqb next (length e / 2) h
          ∙ derivation-listed (cfg_in start p) w e (top→derivation short even (subst Top h (a.found (omega arith))))
      go (no h) =
          ne_eqb next (length e / 2) h ∙ none-listed (cfg_in start p) w e (λ d. other (dec_lt next too_many) (derivation→top d))
        where
          other : Dec (next < too_many) → Top (length e / 2) → ⊥
          other (yes l) t =
              h (walk-unique (a.found (omega arith)) t)
          other (no l) t = a.none (omega arith) (length e / 2) t
