-- What opening and taking give, by the checks in the code: one law for each path through the code. Assumes nothing.
use Prim.Native.Nat.{ℕ, ◌+◌, ◌≤◌, ◌<◌}
use mathlib.Core.Bool.{Bool, true, false}
use mathlib.Core.List.{List, [], ◌∷◌, ◌++◌}
use mathlib.Core.Path.{◌≡◌, refl, sym, ap, ◌∙◌, subst}
use native.Mathlib.Omega.{arith}
use lib.ListN.{length, take}
use lib.Seq.{length-take-le}
use borrow.Author.Tests.{lt-ltb, le-ltb, eq-eqb, ne_eqb}
use Rattle.sizes.specs.Sizes.{cells, max_input}
use Rattle.sets.specs.Set.{has}
use Rattle.cfg.specs.Grammar.{Cfg, rule}
use Rattle.chart.specs.Cell.{cell}
use Rattle.chart.specs.Column.{opened, extended, complete}
use Rattle.chart.proofs.SameRules.{SameRules, opened-same-rules, extended-same-rules}
use Rattle.grammar.specs.declared.Grammar.{Grammar}
use Rattle.grammar.specs.Valid.{valid_grammar}
use Rattle.grammar.specs.View.{dated, grammar_of}
use Rattle.packed.specs.Packed.{cfg_in}
use Rattle.packed.proofs.Laws.{cfg-in-bounded}
use Rattle.results.specs.Answer.{Answer, refused, answered, decide}
use Rattle.results.specs.Recognize.{State, Recognition, hand_of, state_of, state_check, open_in, open_of, take_in, take_of}
use Rattle.results.proofs.State.{state-count, state-within, state-taken}
use Rattle.fill_columns.specs.Columns.{column_of}

-- the three parts of what a call gives
abbrev pub given : Answer Bool → State → List ℕ → Recognition
given a h chart = record { answer = a; state = h; chart = chart }

pub given-same : (a a' : Answer Bool) (h h' : State) (c c' : List ℕ) → a ≡ a' → h ≡ h' → c ≡ c' → given a h c ≡ given a' h' c'
given-same a a' h h' c c' e f g = λ i. given (e i) (f i) (g i)

-- the count of a state that has taken w is within its bytes
module _ (k : State) (w points : List ℕ) (y : ℕ) (next : k ≡ hand_of w points y) where
  pub count_fits : k.count ≤ length k.bytes
  count_fits = subst (λ (s : State). s.count ≤ length s.bytes) (sym next) (state-within w points y)

  pub count-part : k.count ≡ length (take k.count k.bytes)
  count-part = sym (length-take-le k.count k.bytes count_fits)

-- the packed grammar's rules are the grammar's, whatever its start symbol is
same-rules : (G : Cfg) (s : ℕ) (p : List ℕ) → SameRules (cfg_in s p) G → SameRules (cfg_in 0 p) G
unfolding cfg_in
same-rules G s p same r = same r

-- what the test of the grammar says
pub was-invalid : (t v : Bool) → t ≡ v → t ≡ false → v ≡ false
was-invalid t v e f = sym e ∙ f

pub was-valid : (t v : Bool) → t ≡ v → t ≡ true → v ≡ true
was-valid t v e f = sym e ∙ f

-- the answer whether the input is complete
pub says_same : (chart : List ℕ) (n k s : ℕ) (b t : Bool) → k ≡ s → b ≡ has k (cell chart 0 n) → b ≡ t
    → answered t ≡ answered (has s (cell chart 0 n))
says_same chart n k s b t start read e = ap answered (sym e ∙ read ∙ ap (λ (x : ℕ). has x (cell chart 0 n)) start)

module _ (g : Grammar) (chart : List ℕ) where
  -- ---- opening

  module _ (y : ℕ) (a : Answer Bool) (h : State) where
    pub open-invalid : h ≡ state_of [] 0 → valid_grammar g ≡ false → a ≡ refused 8 → given a h chart ≡ open_of (dated g y) chart
    unfolding open_of decide
    open-invalid zeros v e = rw v (given-same a (refused 8) h (state_of [] 0) chart chart e zeros refl)

    pub open-short : h ≡ state_of [] 0 → valid_grammar g ≡ true → length chart < cells → a ≡ refused 10
        → given a h chart ≡ open_of (dated g y) chart
    unfolding open_of decide
    open-short zeros v l e =
        rw (v, lt-ltb (length chart) cells l) (given-same a (refused 10) h (state_of [] 0) chart chart e zeros refl)

    pub open-right : h ≡ state_of [] y → (p chart' : List ℕ) → valid_grammar g ≡ true → cells ≤ length chart
        → ((r : ℕ) → rule (cfg_in g.start p) r ≡ rule (grammar_of (dated g y)) r)
        → chart' ≡ opened (cfg_in 0 p) chart → a ≡ answered (has g.start (cell chart' 0 0)) → given a h chart' ≡ open_of (dated g y) chart
    unfolding open_of open_in decide complete
    open-right new p chart' v l same e f =
        let G = grammar_of (dated g y) in
        let c : chart' ≡ opened G chart =
        e ∙ opened-same-rules (cfg_in 0 p) G (same-rules G g.start p same) (cfg-in-bounded 0 p) chart in
        rw (v, le-ltb (length chart) cells l)
        (given-same a (answered (complete G 0 (opened G chart))) h (state_of [] y) chart' (opened G chart)
        (f ∙ ap (λ (x : List ℕ). answered (has g.start (cell x 0 0))) c) new c)

  -- ---- taking

  module _ (h : State) (m : ℕ) where
    module _ (a : Answer Bool) (k : State) (kept : k ≡ h) where
      pub take-invalid : valid_grammar g ≡ false → a ≡ refused 8 → given a k chart ≡ take_of g h m chart
      unfolding take_of decide
      take-invalid v e = rw v (given-same a (refused 8) k h chart chart e kept refl)

      pub take-over : valid_grammar g ≡ true → (state_check h).fails ≡ true → a ≡ refused 14 → given a k chart ≡ take_of g h m chart
      unfolding take_of decide
      take-over v o e = rw (v, o) (given-same a (refused 14) k h chart chart e kept refl)

      pub take_short : valid_grammar g ≡ true → (state_check h).fails ≡ false → length chart < cells → a ≡ refused 10
          → given a k chart ≡ take_of g h m chart
      unfolding take_of decide
      take_short v o l e = rw (v, o, lt-ltb (length chart) cells l) (given-same a (refused 10) k h chart chart e kept refl)

      pub take-full : valid_grammar g ≡ true → (state_check h).fails ≡ false → cells ≤ length chart → h.count ≡ max_input → a ≡ refused 15
          → given a k chart ≡ take_of g h m chart
      unfolding take_of decide
      take-full v o l f e =
          rw (v, o, le-ltb (length chart) cells l, eq-eqb h.count max_input f)
          (given-same a (refused 15) k h chart chart e kept refl)

    -- the input so far, and the byte
    abbrev input : List ℕ
    input = take h.count h.bytes ++ (m ∷ [])

    module _ (a : Answer Bool) (k : State) (next : k ≡ hand_of input h.points h.year) (count : k.count ≡ h.count + 1) where
      size : length input ≡ k.count
      size = sym (ap (λ (s : State). s.count) next ∙ state-count input h.points h.year)

      bytes : take k.count k.bytes ≡ input
      bytes = ap (λ (s : State). take s.count s.bytes) next ∙ state-taken input h.points h.year

      pub take-right : (p chart' : List ℕ) → valid_grammar g ≡ true → (state_check h).fails ≡ false → h.count < max_input
          → cells ≤ length chart → ((r : ℕ) → rule (cfg_in g.start p) r ≡ rule (grammar_of (dated g h.year)) r)
          → chart' ≡ column_of p (take k.count k.bytes) k.count chart
          → a ≡ answered (has g.start (cell chart' 0 k.count)) → given a k chart' ≡ take_of g h m chart
      unfolding take_of take_in decide complete extended
      take-right p chart' v s o l same e f =
          let G = grammar_of (dated g h.year) in
          let c : chart' ≡ extended G input chart =
          e ∙ ap (λ (x : List ℕ). column_of p x k.count chart) bytes ∙ ap (λ (x : ℕ). column_of p input x chart) (sym size)
          ∙ extended-same-rules (cfg_in 0 p) G (same-rules G g.start p same) (cfg-in-bounded 0 p) input chart in
          rw (v, s, le-ltb (length chart) cells l, ne_eqb h.count max_input (omega arith))
          (given-same a (answered (complete G (h.count + 1) (extended G input chart))) k (hand_of input h.points h.year)
          chart' (extended G input chart)
          (f ∙ ap (λ (x : ℕ). answered (has g.start (cell chart' 0 x))) count
          ∙ ap (λ (x : List ℕ). answered (has g.start (cell x 0 (h.count + 1)))) c) next c)
