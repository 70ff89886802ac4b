-- What the tests of `rule_at` and `look` say, with premises as the code gives them. Assumes nothing.
use Prim.Native.Nat.{ℕ, ◌+◌, ◌*◌, ◌-◌, ◌≤◌, ◌<◌}
use mathlib.Core.Bool.{Bool, true, false, ◌&&◌, true≢false}
use mathlib.Core.List.{List}
use mathlib.Core.Path.{◌≡◌, sym, ap, ◌∙◌}
use native.Mathlib.Omega.{arith}
use lib.ListN.{length, get_or}
use borrow.Author.Tests.{lt-ltb}
use Rattle.sizes.specs.Sizes.{max_rules, nonterminals}
use Rattle.sets.specs.Set.{has}
use Rattle.cfg.specs.Grammar.{Symbol, nonterminal, terminal, fits}
use Rattle.chart.specs.Cell.{fits_at}
use Rattle.packed.specs.Packed.{left_in, place_count, is_nonterminal_in, value_in, terminal_in, symbol_in, fits_place}
use Rattle.packed.proofs.Fitting.{symbol-nonterminal, symbol-terminal}
use Rattle.check_walk.specs.declared.walk.Step.TheVariants.{No, End, Byte, Node}
use Rattle.check_walk.specs.Walk.{Answers, RuleOpens, OfferedLooked, at_end, not_end, at_byte, not_byte, at_node, not_node}

-- ---- the rule of a node

pub rule_found : (p e : List ℕ) (n mask k c at r : ℕ) → r ≡ get_or e (2 * at + 1) 0 → (l : ℕ) → l ≡ left_in p r → (b : Bool) → b ≡ has k mask
    → (m : ℕ) → m ≡ get_or e (2 * at) 0 → at < n → m ≡ c → r < max_rules → k < nonterminals → l ≡ k → b ≡ false
    → Answers (RuleOpens p e n mask k c at) max_rules r
rule_found p e n mask k c at r number l left b member m x early y low used z h =
    record {
      found = λ _. record {
        inside = early;
        covers = sym x ∙ y;
        number = sym number;
        low = low;
        used = used;
        left = sym left ∙ z;
        fresh = sym member ∙ h;
      };
      none = λ q. absurd (omega arith);
    }

-- ---- what comes next in a row

module _ (p w e : List ℕ) (n r q at from to count : ℕ) (counted : count ≡ place_count p r) where
  pub look-end : count ≤ q → from ≡ to → OfferedLooked p w e n r q at from to End
  look-end h d = at_end (omega arith) d

  pub look-not-end : count ≤ q → (from ≡ to → ⊥) → OfferedLooked p w e n r q at from to No
  look-not-end h d = not_end (omega arith) d

  module _ (b : Bool) (tag : b ≡ is_nonterminal_in p r q) (before : q < count) where
    pub look-node : (c k : ℕ) → b ≡ true → at < n → c ≡ get_or e (2 * at) 0 → k ≡ value_in p r q → from ≤ to → c ≤ to - from
        → OfferedLooked p w e n r q at from to (Node k c)
    look-node c k t h x y l m =
        at_node (omega arith) (symbol-nonterminal p r q (sym tag ∙ t) ∙ ap nonterminal (sym y)) h (sym x) (omega arith)

    pub look-far : (c : ℕ) → b ≡ true → c ≡ get_or e (2 * at) 0 → to - from < c → OfferedLooked p w e n r q at from to No
    look-far c t x m = not_node (omega arith) (symbol-nonterminal p r q (sym tag ∙ t)) (λ _ l. omega arith)

    pub look-late : b ≡ true → n ≤ at → OfferedLooked p w e n r q at from to No
    look-late t h = not_node (omega arith) (symbol-nonterminal p r q (sym tag ∙ t)) (λ l _. omega arith)

    terminal-here : b ≡ false → symbol_in p r q ≡ terminal (terminal_in p r q)
    terminal-here t = symbol-terminal p r q (sym tag ∙ t)

    -- at a terminal the test of the place is the test of the terminal
    fits-here : b ≡ false → from < to → to ≤ length w → fits_place w (symbol_in p r q) from ≡ fits (terminal_in p r q) (get_or w from 0)
    unfolding fits_place fits_at
    fits-here t h l =
        ap (λ (s : Symbol). fits_place w s from) (terminal-here t)
        ∙ ap (λ (z : Bool). z && fits (terminal_in p r q) (get_or w from 0)) (lt-ltb from (length w) (omega arith))

    pub look-byte : (f : Bool) → b ≡ false → from < to → to ≤ length w → f ≡ fits_place w (symbol_in p r q) from → f ≡ true
        → OfferedLooked p w e n r q at from to Byte
    look-byte f t h l x y = at_byte (omega arith) (terminal-here t) h (sym (fits-here t h l) ∙ sym x ∙ y)

    pub look-misfit : (f : Bool) → b ≡ false → from < to → to ≤ length w → f ≡ fits_place w (symbol_in p r q) from → f ≡ false
        → OfferedLooked p w e n r q at from to No
    look-misfit f t h l x y =
        not_byte (omega arith) (terminal-here t) (λ _ z. true≢false (sym z ∙ sym (fits-here t h l) ∙ sym x ∙ y))

    pub look-short : b ≡ false → to ≤ from → OfferedLooked p w e n r q at from to No
    look-short t h = not_byte (omega arith) (terminal-here t) (λ l _. omega arith)
