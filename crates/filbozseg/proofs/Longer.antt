-- A longer grammar fits a flat row if the one before it was read from a row. So it is read back from its row as it was written. Assumes
-- nothing.
use Prim.Native.Nat.{ℕ, ◌≤◌, ◌<◌}
use native.Mathlib.Decide.{dec_lt}
use native.Mathlib.Omega.{arith}
use mathlib.Core.Bool.{true}
use mathlib.Core.List.{List}
use mathlib.Core.Logic.{dite}
use mathlib.Core.Path.{◌≡◌, refl, sym, subst}
use lib.ListN.{length, get_or}
use borrow.Author.Tests.{not-false}
use Rattle.sizes.specs.Sizes.{max_places}
use Rattle.theory_shrinking.proofs.Depth.{depth_small}
use Rattle.grammar.specs.declared.Place.{Place}
use Rattle.grammar.specs.declared.Rule.{Rule}
use Rattle.grammar.specs.declared.Grammar.{Grammar}
use Rattle.grammar.specs.Valid.{valid_grammar}
use Rattle.grammar.specs.View.{whole_of}
use Rattle.grammar.specs.Zero.{zero_place, no_rule}
use Rattle.grammar.proofs.Bounds.{rule-parts, valid-count, valid-each}
use Rattle.theory_tidying.specs.Tidying.{tidied_rule, tidied}
use Rattle.theory_tidying.proofs.Tidied.{tidied-rule-size, tidied-rule-at, tidied-rule-past, tidied-size, tidied-used, tidied-unused}
use Rattle.c_grammar.specs.Fits.{SymbolBytes, DeclaredRule, DeclaredGrammar, Fits16}
use Rattle.c_grammar.specs.Flat.{grammar_in}
use Rattle.c_grammar.proofs.Declared.{grammar-declared}
use Rattle.c_grammar.proofs.Round.{read-write}
use Rattle.c_answer.specs.Code.{left_of, flat_left}
use Rattle.results.specs.Learn.{Joining, faulty, longer, enlarged, Learning, unlearnt, learn_in, learn_of}
use Rattle.results.specs.Recognize.{State}
use Rattle.results.proofs.Decide.{decide-either}
use Rattle.results.proofs.Learning.Commands.{learn-invariant}
use Rattle.results.proofs.Learning.Enlarged.{enlarged-longer}
use Rattle.filbozseg.proofs.Fits.{SmallRule, Small, small-fits, zero-rule-small, small-invariant}

-- ---- the old grammar without rubbish

module _ (ρ : Rule) (d : DeclaredRule ρ) (few : ρ.count ≤ max_places) where
  room : ρ.count ≤ length ρ.places
  room = omega (arith, d.places)

  abbrev Bytes : Place → Type 0
  Bytes p = SymbolBytes p.symbol

  tidied-symbols : (q : ℕ) → q < max_places → Bytes (get_or (tidied_rule ρ).places q zero_place)
  tidied-symbols q h = dite (dec_lt q ρ.count)
      (λ k. subst Bytes (sym (tidied-rule-at ρ room q zero_place k)) (d.symbols q h))
      (λ k. subst Bytes (sym (tidied-rule-past ρ room q zero_place (omega arith) h)) (omega arith, omega arith))

  tidied-rule-small : SmallRule (tidied_rule ρ)
  unfolding tidied_rule
  tidied-rule-small = record {
    declared = record {
      left = d.left;
      magnitude = d.magnitude;
      places = tidied-rule-size ρ room few;
      symbols = tidied-symbols;
      name = d.name;
      bytes = d.bytes;
    };
    count = few;
  }

module _ (g : Grammar) (d : DeclaredGrammar g) (valid : valid_grammar g ≡ true) where
  enough : g.count ≤ length g.rules
  enough = omega (arith, valid-count g valid, d.rules)

  tidied-small : Small (tidied g)
  unfolding tidied
  tidied-small = record {
    start = d.start;
    count = valid-count g valid;
    rules = tidied-size g enough (valid-count g valid);
    each = λ r h. dite (dec_lt r g.count)
        (λ k. subst SmallRule (sym (tidied-used g enough r k))
        (tidied-rule-small (get_or g.rules r no_rule) (d.each r h) (rule-parts (get_or g.rules r no_rule) (valid-each g valid r k)).1))
        (λ k. subst SmallRule (sym (tidied-unused g enough r (omega arith) h)) zero-rule-small);
  }

-- ---- the longer grammar

pub enlarged-fits : (bytes : List ℕ) → ((i : ℕ) → get_or bytes i 0 < 256) → (g g' : Grammar) → DeclaredGrammar g → valid_grammar g ≡ true
    → enlarged g bytes ≡ longer g' → Fits16 g'
enlarged-fits bytes small g g' d valid e =
    let L = enlarged-longer (learn-invariant (small-invariant bytes small)) g g' (tidied-small g d valid, λ z. absurd (omega arith)) e in
    subst Fits16 (sym L.same) (small-fits L.read _ L.holds.0 (omega (arith, depth_small (whole_of L.read))))

-- ---- the call

-- the row f, or the one written over it, is read as the grammar
abbrev pub ReadBack : List ℕ → Learning → Type 0
ReadBack f l = grammar_in (left_of (flat_left l.grammar) l.answer f) ≡ l.grammar

module _ (f : List ℕ) (h : State) (bytes chart : List ℕ) where
  joined_back : (j : Joining) → ((g : Grammar) → j ≡ longer g → Fits16 g)
      → ReadBack f (elim j [ faulty x ↦ unlearnt (grammar_in f) h chart x | longer g ↦ learn_in g h chart ])
  unfolding learn_in
  joined_back (faulty x) fits = refl
  joined_back (longer g) fits = read-write g (fits g refl)

  pub learnt-back : ((i : ℕ) → get_or f i 0 < 65536) → ((i : ℕ) → get_or bytes i 0 < 256) → ReadBack f (learn_of (grammar_in f) h bytes chart)
  unfolding learn_of
  learnt-back row small = decide-either _ _ (ReadBack f) _ (λ n. refl)
      (λ p. joined_back (enlarged (grammar_in f) bytes)
      (λ g. enlarged-fits bytes small (grammar_in f) g (grammar-declared f row) (not-false (valid_grammar (grammar_in f)) p.0)))
