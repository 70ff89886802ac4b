-- The levels of a declared grammar, rule by rule, and the steps of the loop that goes up to the nullable depth, with the premises that the
-- code gives. Assumes nothing.
use Prim.Native.Nat.{ℕ, suc, ◌+◌, ◌-◌, ◌≤◌, ◌<◌}
use native.Mathlib.Decide.{dec_lt}
use native.Mathlib.Numerals.{add-one}
use native.Mathlib.Omega.{arith}
use mathlib.Core.Bool.{Bool, true, cond}
use mathlib.Core.List.{List, ◌∷◌, map}
use mathlib.Core.Logic.{dite}
use mathlib.Core.Path.{◌≡◌, refl, sym, ap, ap₂, ◌∙◌}
use lib.ListN.{length, take, get_or}
use Rattle.std.proofs.lemmas.List.{take_all}
use Rattle.laws.proofs.Bools.{bool-ext}
use Rattle.sets.specs.Set.{insert}
use Rattle.sets.proofs.Laws.{set-ext}
use Rattle.cfg.specs.Grammar.{Of}
use Rattle.cfg.specs.Nullable.{heads, level_above, level, first_height, depth_of}
use Rattle.theory_shrinking.proofs.Levels.{level-word, level-sound}
use Rattle.theory_shrinking.proofs.Depth.{height-here, height-above, level_all}
use Rattle.grammar.specs.declared.Rule.{Rule}
use Rattle.grammar.specs.declared.Grammar.{Grammar}
use Rattle.grammar.specs.Valid.{valid_grammar}
use Rattle.grammar.specs.View.{rule_of, whole_of}
use Rattle.grammar.specs.Zero.{no_rule}
use Rattle.grammar.proofs.Bounds.{whole-bounded}
use Rattle.load_nullable.specs.Nullable.{rule_known, add_head, ExactNullable}
use Rattle.load_nullable.proofs.Pass.{rules-next}
use Rattle.load_nullable.proofs.Empty.{places-known}

-- ---- a level, rule by rule

-- the left sides that a list of declared rules adds
abbrev pub heads_by : ℕ → List Rule → ℕ → ℕ
heads_by known l found = heads known (map rule_of l) found

heads-one : (known : ℕ) (r : Rule) (l : List Rule) (found : ℕ) → heads_by known (r ∷ l) found ≡ heads_by known l (add_head r known found)
unfolding heads add_head rule_known
heads-one known r l found =
    ap (λ (b : Bool). heads_by known l (cond b (insert r.left found) found)) (places-known known (take r.count r.places))

-- the steps of the loop over the used rules
pub heads-again : (l : List Rule) (i known s t : ℕ) → s ≡ heads_by known (take i l) 0 → t ≡ add_head (get_or l i no_rule) known s
    → i < length l → t ≡ heads_by known (take (i + 1) l) 0
unfolding heads
heads-again l i known s t e f h =
    f ∙ ap (add_head (get_or l i no_rule) known) e
    ∙ sym (rules-next (heads_by known) (λ r x. add_head r known x) (λ x. refl) (heads-one known) l i 0 h)

pub heads-last : (g : Grammar) (i known s : ℕ) → s ≡ heads_by known (take i (take g.count g.rules)) 0 → length (take g.count g.rules) ≤ i
    → s ≡ level_above (whole_of g) known
heads-last g i known s e h = e ∙ ap (λ (l : List Rule). heads_by known l 0) (take_all i (take g.count g.rules) h)

-- ---- up to the depth

-- d levels were made, and going on from there gives the depth
pub record Rising (g : Grammar) (set lev d : ℕ) : Type 0 where
  pub valid : valid_grammar g ≡ true
  pub is : lev ≡ level (whole_of g) d
  pub few : d ≤ 32
  pub top : set ≡ level (whole_of g) 32
  pub ahead : first_height (whole_of g) set (32 - d) d lev ≡ depth_of (whole_of g)

module _ (g : Grammar) (set : ℕ) where
  -- the nullable nonterminals are level 32
  exact-top : valid_grammar g ≡ true → ExactNullable g set → set ≡ level (whole_of g) 32
  exact-top valid E =
      let low : (r j : ℕ) → Of (whole_of g) r j → j < 32 = whole-bounded g valid in
      set-ext set (level (whole_of g) 32) E.word (level-word (whole_of g) low 32) (λ k h. bool-ext _ _
      (λ e. level_all (whole_of g) low k (E.sound k e))
      (λ e. let (t, p, l) = level-sound (whole_of g) 32 k e in E.complete k (t, p)))

  pub rising-first : (valid_grammar g ≡ true) × ExactNullable g set → Rising g set 0 0
  unfolding level depth_of
  rising-first (valid, E) =
      let top = exact-top valid E in
      record { valid = valid; is = refl; few = omega arith; top = top; ahead = ap (λ (x : ℕ). first_height (whole_of g) x 32 0 0) top }

  module _ (lev d : ℕ) (R : Rising g set lev d) where
    pub rising-valid : valid_grammar g ≡ true
    rising-valid = R.valid

    -- a level that is not the top is below it
    rising-below : (lev ≡ set → ⊥) → d < 32
    rising-below n = dite (dec_lt d 32) (λ l. l)
        (λ l. let e : d ≡ 32 = omega (arith, R.few) in absurd (n (R.is ∙ ap (level (whole_of g)) e ∙ sym R.top)))

    pub rising-less : (lev ≡ set → ⊥) → 32 - (d + 1) < 32 - d
    rising-less n = omega (arith, rising-below n)

    pub rising-next : (lev' : ℕ) → (lev ≡ set → ⊥) → lev' ≡ level_above (whole_of g) lev → Rising g set lev' (d + 1)
    unfolding level
    rising-next lev' n e =
        let m : suc (32 - (d + 1)) ≡ 32 - d = omega (arith, rising-below n) in
        record {
          valid = R.valid;
          is = e ∙ ap (level_above (whole_of g)) R.is ∙ ap (level (whole_of g)) (sym (add-one d));
          few = omega (arith, rising-below n);
          top = R.top;
          ahead = ap₂ (first_height (whole_of g) set (32 - (d + 1))) (add-one d) e
              ∙ sym (height-above (whole_of g) set (32 - (d + 1)) d lev n)
              ∙ ap (λ (x : ℕ). first_height (whole_of g) set x d lev) m ∙ R.ahead;
        }

    pub rising-last : lev ≡ set → d ≡ depth_of (whole_of g)
    rising-last e = sym (height-here (whole_of g) set (32 - d) d lev e) ∙ R.ahead
