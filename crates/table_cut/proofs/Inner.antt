-- The least cost of the places of a rule from one place on, inside a span, by the tests that the code makes. Assumes nothing.
use Prim.Native.Nat.{ℕ, suc, ◌≤◌, ◌<◌}
use mathlib.Core.Bool.{Bool, true, false}
use mathlib.Core.List.{List}
use mathlib.Core.Logic.{◌≢◌}
use mathlib.Core.Path.{◌≡◌, sym, ap, ◌∙◌}
use native.Mathlib.Omega.{arith}
use Rattle.theory_costs.specs.Cut.{within}
use Rattle.theory_costs.proofs.Within.{within-whole, within-part}
use Rattle.packed.specs.Packed.{place_count, is_nonterminal_in, value_in, terminal_in}
use Rattle.packed.proofs.Laws.{places-step}
use Rattle.packed.proofs.Fitting.{symbol-nonterminal, symbol-terminal}
use Rattle.table_layout.specs.Layout.{cost_in, full_in}
use Rattle.table_cut.specs.Suffix.{AtNonterminal, AtTerminal}
use Rattle.table_cut.specs.Within.{tail_in, NonterminalAt, SuffixAt}

module _ (tables full : List ℕ) (k i a j : ℕ) where
  pub last-whole : {v : ℕ} → a ≡ i → v ≡ full_in full k → v ≡ within i j (full_in full) (cost_in tables) k a j
  last-whole e f =
      f ∙ sym (ap (λ (x : ℕ). within i j (full_in full) (cost_in tables) k x j) e ∙ within-whole i j (full_in full) (cost_in tables) k)

  pub last-part : {v : ℕ} → i ≤ a → a ≤ j → a ≢ i → v ≡ cost_in tables k a j → v ≡ within i j (full_in full) (cost_in tables) k a j
  last-part h l n f = let d : ¬ (a ≡ i) = n in f ∙ sym (within-part i j (full_in full) (cost_in tables) k a j (omega arith))

  pub nonterminal-inside : {from : ℕ} {rests : List ℕ} {at last v : ℕ} → i ≤ a → a ≤ j
      → last ≡ within i j (full_in full) (cost_in tables) k a j
      → AtNonterminal tables k a from j last rests at v → NonterminalAt tables full k i a from j rests at v
  nonterminal-inside h l e S = record {
    exact = λ fit places P R.
        S.exact fit (within i j (full_in full) (cost_in tables)) places
        (record {
          first = λ c m o. sym (within-part i j (full_in full) (cost_in tables) k a c (omega arith));
          whole = e;
          later = R;
          passed = P;
        });
  }

module _ (p : List ℕ) (r q : ℕ) (fits : Bool) (tables full : List ℕ) (i a from j : ℕ) (rests : List ℕ) (at : ℕ) {b : Bool}
    (h : q < place_count p r) (e : b ≡ is_nonterminal_in p r q) where
  pub suffix-nonterminal : {k v : ℕ} → b ≡ true → k ≡ value_in p r q → NonterminalAt tables full k i a from j rests at v
      → SuffixAt p r q fits tables full i a from j rests at v
  suffix-nonterminal t f S = record {
    exact = λ fit _ P R.
        rw (places-step p r q h, symbol-nonterminal p r q (sym e ∙ t), ← f) (S.exact fit (tail_in p r (suc q)) P R);
  }

  pub suffix-terminal : {v : ℕ} → b ≡ false → AtTerminal fits a j rests at v → SuffixAt p r q fits tables full i a from j rests at v
  suffix-terminal t S = record {
    exact = λ fit f P R.
        rw (places-step p r q h, symbol-terminal p r q (sym e ∙ t))
        (S.exact fit (within i j (full_in full) (cost_in tables)) (terminal_in p r q) (tail_in p r (suc q)) (f (sym e ∙ t))
        (λ l. R (suc a) (omega arith) (omega arith)));
  }
