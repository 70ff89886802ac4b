-- Abstract context-free grammars. Document 01 calls a grammar a book, a nonterminal a kind, and a terminal a mark. Assumes nothing.
use Rattle.std.specs.Prelude.{ℕ, Bool, ◌&&◌, List, ◌≡◌, eqb, leb}
use Rattle.std.proofs.Math.Option.{Option, none, some}
use Rattle.std.proofs.Math.ListN.{get_elem?}

-- what a place asks of one byte of the input: that it is this byte (command 40), or one from low to high (command 41)
pub data Terminal : Type 0 where
  byte : ℕ → Terminal
  range : (low high : ℕ) → Terminal

-- whether a byte fits a terminal: the only test of a byte against a place
unfoldable pub fits : Terminal → ℕ → Bool
fits (byte a) m = eqb a m
fits (range low high) m = leb low m && leb m high

-- what a place of a rule holds: a nonterminal (kind) or a terminal (mark)
pub data Symbol : Type 0 where
  nonterminal : ℕ → Symbol
  terminal : Terminal → Symbol

-- a rule: its left side and the symbols of its places, in their order
pub record Rule : Type 0 where
  pub left : ℕ
  pub places : List Symbol

-- a grammar (book): its start symbol and its rules by number; `none` is a number that has no rule
pub record Cfg : Type 0 where
  pub start : ℕ
  pub rules : List (Option Rule)

-- the value inside both options, or none
unfoldable pub joined : {A : Type 0} → Option (Option A) → Option A
joined none = none
joined (some o) = o

-- the rule of a number, if there is one
abbrev pub rule : Cfg → ℕ → Option Rule
rule G r = joined (get_elem? G.rules r)

-- rule number r is a rule of the nonterminal k
pub record Of (G : Cfg) (r k : ℕ) : Type 0 where
  pub the : Rule
  pub here : rule G r ≡ some the
  pub left : the.left ≡ k
