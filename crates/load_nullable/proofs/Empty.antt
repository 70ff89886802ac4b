-- The search for nullable nonterminals in trees: what a rule over nullable nonterminals adds is nullable, and a set to which no rule adds
-- anything has every nullable nonterminal. The laws are about any list of declared rules. Assumes nothing.
use Prim.Native.Nat.{ℕ, ◌≤◌, ◌<◌}
use native.Mathlib.Decide.{ℕ_discrete, dec_lt}
use native.Mathlib.Omega.{arith}
use mathlib.Core.Bool.{Bool, true, ◌&&◌}
use mathlib.Core.List.{List, [], ◌∷◌, map, append-nil, cons-ne-nil}
use mathlib.Core.Logic.{dite}
use mathlib.Core.Option.{none, some-injective, some-ne-none}
use mathlib.Core.Path.{◌≡◌, refl, sym, ap, ◌∙◌, subst}
use lib.ListN.{length, take, get_or}
use lib.Seq.{take-length}
use Rattle.laws.proofs.Bools.{and_parts, and_both}
use Rattle.cfg.specs.Grammar as Abstract
use Rattle.cfg.specs.Grammar.{Symbol, nonterminal, terminal, Cfg, joined, rule, Of}
use Rattle.cfg.specs.Tree.{Forest, end, node, yield, Fits, fits_end, fits_leaf, fits_node}
use Rattle.cfg.specs.Nullable.{Nullable, symbols_in}
use Rattle.theory_shrinking.proofs.Nullable.{append-empty-left, append-empty-right}
use Rattle.theory_shrinking.proofs.Levels.{empty-forest}
use Rattle.sets.specs.Set.{has}
use Rattle.sets.proofs.Laws.{has-insert-other}
use Rattle.grammar.specs.declared.Place.{Place}
use Rattle.grammar.specs.declared.Rule.{Rule}
use Rattle.grammar.specs.Valid.{all}
use Rattle.grammar.specs.View.{place_of, rule_of}
use Rattle.grammar.specs.Zero.{no_rule}
use Rattle.grammar.proofs.RuleAt.{get_elem-map-take, get_elem-map-past}
use Rattle.load_nullable.specs.Nullable.{symbol_known, place_known, rule_known, widen}
use Rattle.load_nullable.proofs.Pass.{widen-cases}

-- each member is nullable
abbrev pub Sound : Cfg → ℕ → Type 0
Sound G known = (k : ℕ) → has k known ≡ true → Nullable G k

symbol-known : (known : ℕ) (s : Symbol) (places : List Symbol)
    → symbols_in known (s ∷ places) ≡ (symbol_known known s && symbols_in known places)
unfolding symbols_in
symbol-known known (nonterminal k) places = refl
symbol-known known (terminal t) places = refl

-- the places of a declared rule
pub places-known : (known : ℕ) (l : List Place) → symbols_in known (map place_of l) ≡ all (place_known known) l
unfolding symbols_in all
places-known known [] = refl
places-known known (p ∷ l) =
    symbol-known known (place_of p) (map place_of l) ∙ ap (λ (b : Bool). place_known known p && b) (places-known known l)

-- the abstract grammar of a list of declared rules; `whole_of` is that of the used ones
abbrev pub cfg_by : ℕ → List Rule → Cfg
cfg_by start l = record { start = start; rules = map rule_of l }

-- its rules by their numbers
list_at : (start : ℕ) (l : List Rule) (i : ℕ) → i < length l → rule (cfg_by start l) i ≡ rule_of (get_or l i no_rule)
unfolding joined
list_at start l i h = ap joined (rw take-length at (get_elem-map-take rule_of l no_rule (length l) i h h))

list-past : (start : ℕ) (l : List Rule) (i : ℕ) → length l ≤ i → rule (cfg_by start l) i ≡ none
unfolding joined
list-past start l i h = ap joined (rw take-length at (get_elem-map-past rule_of l (length l) i h))

module _ (start : ℕ) (l : List Rule) where
  -- the left side of a rule whose places hold members is nullable
  rule-nullable : (known i : ℕ) → Sound (cfg_by start l) known → i < length l → rule_known known (get_or l i no_rule) ≡ true
      → Nullable (cfg_by start l) (get_or l i no_rule).left
  unfolding rule_known yield
  rule-nullable known i sound h e =
      let r = get_or l i no_rule in
      let t = empty-forest (cfg_by start l) (λ t. Unit {0}) tt (λ _ _ _ _ _ _. tt) known (λ k m. ((sound k m).0, (sound k m).1, tt))
      (map place_of (take r.count r.places)) (places-known known (take r.count r.places) ∙ e) in
      let o : Of (cfg_by start l) i r.left = record {
        the = record { left = r.left; places = map place_of (take r.count r.places) };
        here = list_at start l i h;
        left = refl;
      } in
      (node i t.0 end, (fits_node o t.1 fits_end, append-nil (yield t.0) ∙ t.2))

  pub widen-sound : (known i : ℕ) → Sound (cfg_by start l) known → i < length l → Sound (cfg_by start l) (widen (get_or l i no_rule) known)
  widen-sound known i sound h =
      let r = get_or l i no_rule in
      widen-cases known r (Sound (cfg_by start l)) sound (λ e k m. dite (ℕ_discrete k r.left)
      (λ p. subst (Nullable (cfg_by start l)) (sym p) (rule-nullable known i sound h e))
      (λ n. sound k (sym (has-insert-other k r.left known n) ∙ m)))

  -- each rule whose places hold members has its left side in the set
  abbrev pub Closed : ℕ → Type 0
  Closed known = (i : ℕ) → i < length l → rule_known known (get_or l i no_rule) ≡ true → has (get_or l i no_rule).left known ≡ true

  module _ (known : ℕ) (closed : Closed known) where
    of-closed : {r k : ℕ} (o : Of (cfg_by start l) r k) → symbols_in known o.the.places ≡ true → has k known ≡ true
    unfolding rule_known
    of-closed {r} {k} o e = dite (dec_lt r (length l)) inside outside
      where
        ρ : Rule
        ρ = get_or l r no_rule

        inside : r < length l → has k known ≡ true
        inside h =
            let m : record { left = ρ.left; places = map place_of (take ρ.count ρ.places) } ≡ o.the =
            some-injective _ o.the (sym (list_at start l r h) ∙ o.here) in
            let a : symbols_in known (map place_of (take ρ.count ρ.places)) ≡ true =
            ap (λ (σ : Abstract.Rule). symbols_in known σ.places) m ∙ e in
            let b : rule_known known ρ ≡ true = sym (places-known known (take ρ.count ρ.places)) ∙ a in
            ap (λ (j : ℕ). has j known) (sym (ap (λ (σ : Abstract.Rule). σ.left) m ∙ o.left)) ∙ closed r h b

        outside : ¬ (r < length l) → has k known ≡ true
        outside n = absurd (some-ne-none o.the (sym o.here ∙ list-past start l r (omega arith)))

    row-closed : {places : List Symbol} {t : Forest} → Fits (cfg_by start l) places t → yield t ≡ []
        → symbols_in known places ≡ true
    unfolding symbols_in yield
    row-closed fits_end e = refl
    row-closed (fits_leaf {m} {rest} f s) e = absurd (cons-ne-nil m (yield rest) e)
    row-closed (fits_node {k} {places} {below} {rest} o b s) e =
        let x = row-closed b (append-empty-left (yield below) (yield rest) e) in
        let y = row-closed s (append-empty-right (yield below) (yield rest) e) in
        and_both (has k known) (symbols_in known places) (of-closed o x) y

    pub closed-complete : (k : ℕ) → Nullable (cfg_by start l) k → has k known ≡ true
    unfolding symbols_in
    closed-complete k n = (and_parts (has k known) true (row-closed n.1.0 n.1.1)).0
