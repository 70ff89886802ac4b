-- The search as defined: a set to which a pass adds nothing, and whose members are nullable, has exactly the nullable nonterminals. Each
-- pass before that one adds a member, so the passes are at most one more than the members. The steps have the premises that the code of the
-- loop gives; the definition goes by the same steps. Assumes nothing.
use Prim.Native.Nat.{ℕ, zero, suc, ◌+◌, ◌-◌, ◌^◌, ◌≤◌, ◌<◌}
use native.Mathlib.Decide.{ℕ_discrete}
use native.Mathlib.Nat.{le_refl}
use native.Mathlib.Numerals.{add-one}
use native.Mathlib.Omega.{arith}
use mathlib.Core.Bool.{true}
use mathlib.Core.List.{List}
use mathlib.Core.Logic.{dite, ⊎_elim}
use mathlib.Core.Path.{◌≡◌, refl, sym, ap, ◌∙◌, subst}
use lib.ListN.{length, take, get_or}
use lib.Seq.{take-length}
use borrow.Author.Tests.{eq-eqb, ne_eqb}
use Rattle.laws.proofs.Bools.{true-false}
use Rattle.sets.specs.Set.{card}
use Rattle.sets.proofs.Laws.{has-empty}
use Rattle.sets.proofs.Card.{card-le}
use Rattle.grammar.specs.declared.Rule.{Rule}
use Rattle.grammar.specs.declared.Grammar.{Grammar}
use Rattle.grammar.specs.Valid.{valid_grammar}
use Rattle.grammar.specs.View.{whole_of}
use Rattle.grammar.specs.Zero.{no_rule}
use Rattle.grammar.proofs.Bounds.{grammar-parts}
use Rattle.load_nullable.specs.Nullable.{pass, search_from, search_of, Searched}
use Rattle.load_nullable.proofs.Pass.{pass-word, pass-next, pass_same, pass-grown, widen-same}
use Rattle.load_nullable.proofs.Empty.{Sound, cfg_by, widen-sound, Closed, closed-complete}

-- ---- a pass over a list of rules

module _ (start : ℕ) (l : List Rule) where
  pass-front : (known n : ℕ) → Sound (cfg_by start l) known → n ≤ length l → Sound (cfg_by start l) (pass (take n l) known)
  unfolding pass
  pass-front known zero sound h = sound
  pass-front known (suc n) sound h =
      let e = rw add-one at (pass-next l n known h) in
      let w = widen-sound start l (pass (take n l) known) n (pass-front known n sound (omega arith)) h in
      subst (Sound (cfg_by start l)) (sym e) w

  pass-sound : (known : ℕ) → Sound (cfg_by start l) known → Sound (cfg_by start l) (pass l known)
  pass-sound known sound = rw take-length at (pass-front known (length l) sound (le_refl (length l)))

  closed_of : (known : ℕ) → pass l known ≡ known → Closed start l known
  closed_of known e i h r = widen-same known (get_or l i no_rule) (pass_same l known e i h) r

-- ---- one pass of the search

module _ (n : ℕ) (l : List Rule) (known passes : ℕ) where
  search-ends : pass l known ≡ known → search_from (suc n) l known passes ≡ record { set = known; passes = passes + 1 }
  unfolding search_from
  search-ends e = rw (eq-eqb (pass l known) known e, search_from)

  search-goes : (pass l known ≡ known → ⊥) → search_from (suc n) l known passes ≡ search_from n l (pass l known) (passes + 1)
  unfolding search_from
  search-goes d = rw (ne_eqb (pass l known) known d, search_from)

-- ---- the search

-- the pass that makes next of known is the last that is counted: known is a word of nullable nonterminals, at least one for each pass
-- before that one, and the search from there on gives what the whole search gives
pub record Searching (g : Grammar) (known next passes : ℕ) : Type 0 where
  pub word : known < 2 ^ 32
  pub sound : Sound (whole_of g) known
  pub passed : next ≡ pass (take g.count g.rules) known
  pub some : 1 ≤ passes
  pub few : passes ≤ card known + 1
  pub bounded : passes ≤ 33
  pub ahead : search_from (34 - passes) (take g.count g.rules) known (passes - 1) ≡ search_of g

pub searching-first : (g : Grammar) (next : ℕ) → next ≡ pass (take g.count g.rules) 0 → Searching g 0 next 1
unfolding search_of
searching-first g next e = record {
  word = omega arith;
  sound = λ k h. absurd (true-false h (has-empty k));
  passed = e;
  some = omega arith;
  few = omega arith;
  bounded = omega arith;
  ahead = refl;
}

module _ (g : Grammar) (valid : valid_grammar g ≡ true) where
  -- the rules that are used
  abbrev used : List Rule
  used = take g.count g.rules

  module _ (known next passes : ℕ) (S : Searching g known next passes) where
    -- the search from here on is one pass, and what follows from it
    ahead-pass : search_from (suc (33 - passes)) used known (passes - 1) ≡ search_of g
    ahead-pass =
        let e : suc (33 - passes) ≡ 34 - passes = omega arith in
        ap (λ (n : ℕ). search_from n used known (passes - 1)) e ∙ S.ahead

    next_more : (next ≡ known → ⊥) → card known < card next
    next_more d = ⊎_elim (λ p. absurd (d (S.passed ∙ p))) (λ m. omega (arith, ap card S.passed))
        (pass-grown used known (grammar-parts g valid).2)

    next-ahead : (next ≡ known → ⊥) → search_from (34 - (passes + 1)) used next (passes + 1 - 1) ≡ search_of g
    next-ahead d =
        let e : 34 - (passes + 1) ≡ 33 - passes = omega arith in
        let f : passes + 1 - 1 ≡ passes - 1 + 1 = omega arith in
        rw (e, f, S.passed) (sym (search-goes (33 - passes) used known (passes - 1) (λ p. d (S.passed ∙ p))) ∙ ahead-pass)

    pub searching-next : (after : ℕ) → (next ≡ known → ⊥) → after ≡ pass (take g.count g.rules) next
        → Searching g next after (passes + 1)
    searching-next after d e =
        let few : passes + 1 ≤ card next + 1 = omega (arith, next_more d) in
        record {
          word = subst (λ (n : ℕ). n < 2 ^ 32) (sym S.passed) (pass-word used known (grammar-parts g valid).2 S.word);
          sound = subst (Sound (whole_of g)) (sym S.passed) (pass-sound g.start used known S.sound);
          passed = e;
          some = omega arith;
          few = few;
          bounded = omega (arith, card-le next);
          ahead = next-ahead d;
        }

    pub searching-last : next ≡ known → Searched g (record { set = known; passes = passes })
    searching-last e =
        let same : pass used known ≡ known = sym S.passed ∙ e in
        let p : passes - 1 + 1 ≡ passes = omega arith in
        record {
          is = sym ahead-pass ∙ rw p at (search-ends (33 - passes) used known (passes - 1) same);
          exact = record {
            word = S.word;
            sound = S.sound;
            complete = closed-complete g.start used known (closed_of g.start used known same);
          };
          few = S.few;
        }

  -- the search as defined goes by the same steps
  searched-from : (n known passes : ℕ) → n + passes ≡ 34 → Searching g known (pass used known) passes → Searched g (search_of g)
  searched-from zero known passes e S = absurd (omega arith)
  searched-from (suc n) known passes e S = dite (ℕ_discrete (pass used known) known)
      (λ p. let R = searching-last known (pass used known) passes S p in subst (Searched g) (sym R.is) R)
      (λ d. searched-from n (pass used known) (passes + 1) (omega arith)
      (searching-next known (pass used known) passes S (pass used (pass used known)) d refl))

  pub searched : Searched g (search_of g)
  searched = searched-from 33 0 1 refl (searching-first g (pass used 0) refl)
