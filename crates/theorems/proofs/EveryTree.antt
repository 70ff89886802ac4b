-- From the bytes of a book to its parse trees: what is loaded passes check 8, first and then next hand out L, and L holds exactly the
-- codes of the trees. Assumes nothing.
use Prim.Native.Nat.{ℕ, ◌≤◌}
use mathlib.Core.Bool.{true}
use mathlib.Core.List.{List}
use mathlib.Core.Logic.{inl, inr}
use mathlib.Core.Path.{◌≡◌, refl, sym, ◌∙◌}
use lib.ListN.{length}
use Rattle.sizes.specs.Sizes.{max_input}
use Rattle.laws.proofs.Bools.{clash}
use Rattle.cfg.specs.Tree.{code}
use Rattle.cfg.specs.Derivation.{limit}
use Rattle.cfg.specs.Listing.{L}
use Rattle.theory_listing.proofs.Exact.{listed→derivation, derivation→listed, derivations-rising}
use Rattle.theory_listing.proofs.Unique.{tree-unique}
use Rattle.grammar.specs.Valid.{valid_grammar}
use Rattle.grammar.specs.View.{Dated, grammar_of}
use Rattle.results.specs.Answer.{refused_at, loaded}
use Rattle.results.specs.Load.{load_of}
use Rattle.results.proofs.Demand3.Consequences.{first-then-next, first-then-next-said}
use Rattle.demands.specs.LoadDemand.{LoadDemand}
use Rattle.demands.proofs.LoadDemand.{load-demand}
use Rattle.theorems.specs.EveryTree.{EveryTree}

refused-apart : {n at : ℕ} → refused_at n at ≡ loaded → ⊥
refused-apart e = clash cc

-- a grammar that was loaded passes check 8
pub loaded-valid : (bytes : List ℕ) → (load_of bytes).answer ≡ loaded → valid_grammar (load_of bytes).grammar ≡ true
loaded-valid bytes accepted = go (load-demand bytes)
  where
    go : LoadDemand bytes (load_of bytes) → valid_grammar (load_of bytes).grammar ≡ true
    go (inl r) = absurd (refused-apart (sym r.answer ∙ accepted))
    go (inr a) = a.valid

-- the rows are L
pub every-tree : (g : Dated) → valid_grammar g.grammar ≡ true → (w : List ℕ) → length w ≤ max_input → EveryTree g w
every-tree g valid w high = let G = grammar_of g in record {
  rows = L G w;
  complete = λ t c. derivation→listed G limit w (code t)
      (record { tree = t; parse = c.parse; plain = c.plain; small = c.small; coded = refl });
  sound = λ e i. let d = listed→derivation G limit w e i in
      (d.tree, record { parse = d.parse; plain = d.plain; small = d.small }, d.coded);
  apart = λ t u c d k. tree-unique G t u c.parse.0 d.parse.0 (c.parse.1 ∙ sym d.parse.1) k;
  rising = derivations-rising G limit w;
  handed = first-then-next g valid w high;
  said = first-then-next-said g valid w high;
}
