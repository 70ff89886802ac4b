-- What the search for nullable nonterminals (document 02, U3: blank kinds) computes, and what holds of it. Assumes nothing.
use Rattle.std.specs.Prelude.{ℕ, zero, suc, ◌+◌, ◌≤◌, ◌<◌, ◌^◌, Bool, true, false, cond, List, [], ◌∷◌, ◌≡◌, eqb, take}
use Rattle.sizes.specs.Sizes.{nonterminals}
use Rattle.cfg.specs.Grammar.{Symbol, nonterminal, terminal}
use Rattle.cfg.specs.Nullable.{Nullable}
use Rattle.sets.specs.Set.{has, insert, card}
use Rattle.grammar.specs.declared.Place.{Place}
use Rattle.grammar.specs.declared.Rule.{Rule}
use Rattle.grammar.specs.declared.Grammar.{Grammar}
use Rattle.grammar.specs.Valid.{all}
use Rattle.grammar.specs.View.{place_of, whole_of}
use Rattle.load_nullable.specs.declared.Sought.{Sought}

-- the symbol is a known nonterminal
abbrev pub symbol_known : ℕ → Symbol → Bool
symbol_known known (nonterminal k) = has k known
symbol_known known (terminal t) = false

-- the place holds a known nonterminal
abbrev pub place_known : ℕ → Place → Bool
place_known known p = symbol_known known (place_of p)

-- each place of the rule holds a known nonterminal
unfoldable pub rule_known : ℕ → Rule → Bool
rule_known known r = all (place_known known) (take r.count r.places)

-- what was found so far, and the rule's left side if each place of the rule holds a known nonterminal
unfoldable pub add_head : Rule → ℕ → ℕ → ℕ
add_head r known found = cond (rule_known known r) (insert r.left found) found

-- the same where what was found so far is what is known
abbrev pub widen : Rule → ℕ → ℕ
widen r known = add_head r known known

-- one pass: the same for each rule of a list in turn, so that a find counts at once
unfoldable pub pass : List Rule → ℕ → ℕ
pass [] known = known
pass (r ∷ l) known = pass l (widen r known)

-- passes from a known set on, after a number of passes and with n more allowed: the first pass that adds nothing is the last, and counts
unfoldable pub search_from : ℕ → List Rule → ℕ → ℕ → Sought
search_from zero l known passes = record { set = known; passes = passes }
search_from (suc n) l known passes = elim (eqb (pass l known) known) [
  | true ↦ record { set = known; passes = passes + 1 }
  | false ↦ search_from n l (pass l known) (passes + 1)
]

-- the search: from the empty set on. Each pass but the last finds a nonterminal, so one pass more than there are of them is enough
unfoldable pub search_of : Grammar → Sought
search_of g = search_from (nonterminals + 1) (take g.count g.rules) 0 0

-- a word whose members are exactly the nullable nonterminals of the grammar
pub record ExactNullable (g : Grammar) (known : ℕ) : Type 0 where
  pub word : known < 2 ^ 32
  pub sound : (k : ℕ) → has k known ≡ true → Nullable (whole_of g) k
  pub complete : (k : ℕ) → Nullable (whole_of g) k → has k known ≡ true

-- what the search gives back: as defined, exactly the nullable nonterminals, in at most one pass more than these
pub record Searched (g : Grammar) (s : Sought) : Type 0 where
  pub is : search_of g ≡ s
  pub exact : ExactNullable g s.set
  pub few : s.passes ≤ card s.set + 1
