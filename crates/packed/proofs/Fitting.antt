-- Whether a byte of the input fits a place, by the tests in the code. Assumes nothing.
use Prim.Native.Nat.{ℕ, ◌≤◌, ◌<◌}
use mathlib.Core.Bool.{Bool, true, false, cond}
use mathlib.Core.List.{List}
use mathlib.Core.Path.{◌≡◌, sym, ap, ◌∙◌}
use lib.Dec.{eqb}
use lib.ListN.{length, get_or}
use borrow.Author.Tests.{lt-ltb, le-ltb}
use Rattle.cfg.specs.Grammar.{Symbol, nonterminal, terminal, Terminal, byte, range, fits}
use Rattle.chart.specs.Cell.{fits_at}
use Rattle.packed.specs.Packed.{is_nonterminal_in, is_range_in, value_in, high_in, terminal_in, symbol_in, fits_place}

module _ (p : List ℕ) (r q : ℕ) where
  pub symbol-nonterminal : is_nonterminal_in p r q ≡ true → symbol_in p r q ≡ nonterminal (value_in p r q)
  unfolding symbol_in
  symbol-nonterminal e = ap (λ (t : Bool). cond t (nonterminal (value_in p r q)) (terminal (terminal_in p r q))) e

  pub symbol-terminal : is_nonterminal_in p r q ≡ false → symbol_in p r q ≡ terminal (terminal_in p r q)
  unfolding symbol_in
  symbol-terminal e = ap (λ (t : Bool). cond t (nonterminal (value_in p r q)) (terminal (terminal_in p r q))) e

  -- b is whether the place holds a nonterminal
  module _ (w : List ℕ) (i : ℕ) (b : Bool) (e : b ≡ is_nonterminal_in p r q) where
    pub fits-nonterminal : b ≡ true → false ≡ fits_place w (symbol_in p r q) i
    unfolding fits_place
    fits-nonterminal t = sym (ap (λ (s : Symbol). fits_place w s i) (symbol-nonterminal (sym e ∙ t)))

    -- a position of the input, of the byte m, at a place with the terminal x
    fits-terminal : (m : ℕ) (x : Terminal) → b ≡ false → i < length w → m ≡ get_or w i 0 → terminal_in p r q ≡ x
        → fits x m ≡ fits_place w (symbol_in p r q) i
    unfolding fits_place fits_at
    fits-terminal m x t h y z =
        rw y (sym (ap (λ (s : Symbol). fits_place w s i) (symbol-terminal (sym e ∙ t)) ∙ rw (lt-ltb i (length w) h, z)))

    -- d is whether the place holds a range
    module _ (m : ℕ) (t : b ≡ false) (h : i < length w) (y : m ≡ get_or w i 0) (d : Bool) (f : d ≡ is_range_in p r q) (v : ℕ)
        (x : v ≡ value_in p r q) where
      pub fits_byte : d ≡ false → eqb v m ≡ fits_place w (symbol_in p r q) i
      unfolding fits terminal_in
      fits_byte g = fits-terminal m (byte v) t h y (rw (← f, g, x))

      pub fits-range : (u : ℕ) (a : Bool) → d ≡ true → u ≡ high_in p r q → a ≡ fits (range v u) m → a ≡ fits_place w (symbol_in p r q) i
      unfolding terminal_in
      fits-range u a g z k = k ∙ fits-terminal m (range v u) t h y (rw (← f, g, x, z))

    pub fits-past : b ≡ false → length w ≤ i → false ≡ fits_place w (symbol_in p r q) i
    unfolding fits_place fits_at
    fits-past t h = sym (ap (λ (s : Symbol). fits_place w s i) (symbol-terminal (sym e ∙ t)) ∙ rw (le-ltb i (length w) h))
