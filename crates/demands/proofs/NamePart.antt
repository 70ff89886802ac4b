-- The name lookup, for every row of bytes and every number: its part is behind the 60 that names the rule, and empty exactly if there is no
-- name. Assumes nothing.
use Prim.Native.Nat.{ℕ, zero, suc, ◌+◌, ◌<◌}
use native.Mathlib.Omega.{arith}
use mathlib.Core.List.{List}
use mathlib.Core.Logic.{inl, inr}
use mathlib.Core.Option.{Option, none, some}
use mathlib.Core.Path.{◌≡◌, refl, sym, ◌∙◌, subst}
use lib.Dec.{eqb}
use lib.ListN.{length, get_or, take, drop}
use borrow.Author.Tests.{eqb-true}
use Rattle.laws.proofs.Bools.{clash, true-false, by-test, and_parts}
use Rattle.theory_words.specs.Name.{name_size, unfilled}
use Rattle.theory_words.proofs.Filled.{unfilled-some}
use Rattle.theory_words.proofs.SameName.{valid-named}
use Rattle.grammar.specs.declared.Grammar.{Grammar}
use Rattle.grammar.specs.Zero.{zero_grammar}
use Rattle.results.specs.Answer.{LoadAnswer, refused_at, loaded}
use Rattle.results.specs.Load.{Step, stop, next, done, step, load_of}
use Rattle.results.specs.Name.{names_rule, name_by, name_found, name_offset, part_from, name_part}
use Rattle.results.proofs.Loading.Named.{from-stop, from_next, from-done, recorded-within, Told, name-told, part-loaded, part-refused}
use Rattle.demands.specs.LoadDemand.{Reached, begin, further}
use Rattle.demands.specs.NamePart.{Nameless, NamePart}

-- a 60 that is reached while rule r is the open one, and the offset after it
record Sixty (bytes : List ℕ) (r o : ℕ) : Type 0 where
  at : ℕ
  before : Grammar
  reached : Reached bytes at before
  sixty : get_or bytes at 0 ≡ 0x60
  last : before.count ≡ suc r
  offset : o ≡ at + 1

module _ (bytes : List ℕ) (r : ℕ) where
  -- what the lookup finds is behind such a 60
  sixty-found : (o n at : ℕ) (g : Grammar) → Reached bytes at g → name_found bytes r n at g ≡ some o → Sixty bytes r o
  unfolding name_found
  sixty-found o zero at g R e = clash cc
  sixty-found o (suc n) at g R e = go (step bytes at g) refl (sixty-found o n)
    where
      go : (s : Step) → step bytes at g ≡ s
          → ((at' : ℕ) (g' : Grammar) → Reached bytes at' g' → name_found bytes r n at' g' ≡ some o → Sixty bytes r o) → Sixty bytes r o
      go (stop f) p later = let x = sym (from-stop n bytes r at g f p) ∙ e in clash cc
      go (done g') p later = let x = sym (from-done n bytes r at g g' p) ∙ e in clash cc
      go (next at' g') p later =
          let x : name_by bytes r at g (name_found bytes r n at' g') ≡ some o = sym (from_next n bytes r at g at' g' p) ∙ e in
          by-test (names_rule bytes r at g)
          (λ t. let (c, l) = and_parts (eqb (get_or bytes at 0) 0x60) (eqb g.count (suc r)) t in
          let y : some (at + 1) ≡ some o = rw t at x in
          record {
            at = at;
            before = g;
            reached = R;
            sixty = eqb-true (get_or bytes at 0) 0x60 c;
            last = eqb-true g.count (suc r) l;
            offset = cc;
          })
          (λ t. later at' g' (further R p) (rw t at x))

  -- the part of a book that loads, by where the name begins
  part-told : (load_of bytes).answer ≡ loaded → (o : Option ℕ) → name_offset bytes r ≡ o → Told bytes r (load_of bytes).grammar o
      → NamePart bytes r (part_from bytes o)
  part-told a none e T = record { found = λ h. absurd (omega arith); empty = (λ z. inr (inr T), λ n. refl); zeros = λ z. refl }
  part-told a (some o) e T = record {
    found = λ h. record {
      at = S.at;
      before = S.before;
      reached = S.reached;
      sixty = S.sixty;
      last = omega (arith, S.last);
      name = T.name ∙ subst (λ (k : ℕ). take name_size (drop o bytes) ≡ take name_size (drop k bytes)) S.offset refl;
      offset = S.offset;
      within = recorded-within bytes r (load_of bytes).grammar o T;
    };
    empty = (λ z. absurd (omega (arith, more)), λ n. absurd (named n));
    zeros = λ z. absurd (omega (arith, more));
  }
    where
      S : Sixty bytes r o
      S = sixty-found o (length bytes) 0 zero_grammar begin e

      more : 0 < length (unfilled (take name_size (drop o bytes)))
      more = unfilled-some (take name_size (drop o bytes)) (rw T.name at T.valid)

      named : Nameless bytes r → ⊥
      named (inl f) = f a
      named (inr (inl h)) = omega (arith, T.below)
      named (inr (inr u)) = true-false u (valid-named _ T.valid)

  pub name-part : NamePart bytes r (name_part bytes r)
  name-part = go (load_of bytes).answer refl
    where
      go : (a : LoadAnswer) → (load_of bytes).answer ≡ a → NamePart bytes r (name_part bytes r)
      go loaded e = rw (part-loaded bytes r e) (part-told e (name_offset bytes r) refl (name-told bytes r e))
      go (refused_at n o) e = rw (part-refused bytes r n o e) (record {
        found = λ h. absurd (omega arith);
        empty = (λ z. inl (λ x. let y = sym e ∙ x in clash cc), λ n. refl);
        zeros = λ z. refl;
      })
