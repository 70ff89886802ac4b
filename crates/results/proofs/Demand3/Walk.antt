-- Demand 3, first half: over any list of allowed calls, all that the decided results say is what the machine says. One claim over the
-- whole list: the caller's copy is always the reading of the machine's place. First for a grammar, then for the calls with their checks.
-- Assumes nothing.
use Prim.Native.Nat.{ℕ, ◌≤◌}
use native.Mathlib.Omega.{arith}
use mathlib.Core.Bool.{true}
use mathlib.Core.List.{List, [], ◌∷◌, map}
use mathlib.Core.Path.{◌≡◌, refl, ap, ap₂, ◌∙◌}
use lib.ListN.{length}
use Rattle.sizes.specs.Sizes.{max_input, cells, output_size}
use Rattle.cfg.specs.Grammar.{Cfg}
use Rattle.cfg.specs.Tree.{HasTree}
use Rattle.chart.proofs.Derived.{Bounded}
use Rattle.grammar.specs.Valid.{valid_grammar}
use Rattle.grammar.specs.View.{Dated, grammar_of}
use Rattle.grammar.proofs.Bounds.{valid-bounded}
use Rattle.results.specs.Answer.{Figure}
use Rattle.results.specs.Check.{Checking}
use Rattle.results.specs.Ready.{Ready, ReadyOut}
use Rattle.results.specs.Walk.{N, reading, walk, walked, no_derivation, none_left}
use Rattle.results.specs.History.{Made, first, next_copy, next_other, count, which, Allowed, AllAllowed}
use Rattle.results.specs.History.{count_said, says_in, says, copied, history_in, history}
use Rattle.results.proofs.Goes.{first-passed, next-passed, count-passed}
use Rattle.results.proofs.Demand3.Machine.{walk-keeps}
use Rattle.results.proofs.Demand3.Says.{seen, says_in-walk}
use Rattle.results.proofs.Demand3.Decided as Decided

module _ (G : Cfg) (bounded : Bounded G) (w : List ℕ) (high : length w ≤ max_input) (tree : Dec (HasTree G w)) where
  -- from any place, with its reading as the copy
  walk_from : (calls : List Made) → AllAllowed G w calls → (p : ℕ) → p ≤ N G w → (copy : List ℕ) → copy ≡ reading G w p
      → history_in G w copy calls ≡ walked G w tree (map which calls) p
  unfolding history_in walked
  walk_from [] a p h copy e = refl
  walk_from (m ∷ calls) a p h copy e =
      ap₂ ◌∷◌ said (walk_from calls a.1 (walk G w tree (which m) p).place keeps.0 _ copied-reading)
    where
      keeps : ((walk G w tree (which m) p).place ≤ N G w)
          × (copied (walk G w tree (which m) p).said (reading G w p) ≡ reading G w (walk G w tree (which m) p).place)
      keeps = walk-keeps G w tree (which m) p h

      said : says_in G w copy m ≡ (walk G w tree (which m) p).said
      said = rw e (says_in-walk G w bounded high tree m a.0 p h)

      copied-reading : copied (says_in G w copy m) copy ≡ reading G w (walk G w tree (which m) p).place
      copied-reading = ap₂ copied said e ∙ keeps.1

  pub walk-holds-in : (calls : List Made) → AllAllowed G w calls → history_in G w [] calls ≡ walked G w tree (map which calls) 0
  walk-holds-in calls a = walk_from calls a 0 (omega arith) [] refl

module _ (g : Dated) (valid : valid_grammar g.grammar ≡ true) (w : List ℕ) (high : length w ≤ max_input) where
  pub ready : (chart : List ℕ) → cells ≤ length chart → Ready g w chart
  ready chart c = record { valid = valid; short = high; room = c }

  pub ready-out : (chart out : List ℕ) → cells ≤ length chart → output_size ≤ length out → ReadyOut g w chart out
  ready-out chart out c o = record { input = ready chart c; space = o }

  -- the checks of an allowed call are passed
  says-passed : (m : Made) → Allowed (grammar_of g) w m → (copy : List ℕ) → says g w copy m ≡ says_in (grammar_of g) w copy m
  unfolding says says_in
  says-passed (first chart out) a copy = ap (seen no_derivation) (first-passed g w chart out (ready-out chart out a.0 a.1))
  says-passed (next_copy chart out) a copy = ap (seen none_left) (next-passed g w chart out (ready-out chart out a.0 a.1) copy)
  says-passed (next_other e chart out) a copy = ap (seen none_left) (next-passed g w chart out (ready-out chart out a.0 a.1) e)
  says-passed (count chart) a copy = ap (λ (k : Checking Figure). count_said k.answer) (count-passed g w chart (ready chart a))

  pub history-passed : (calls : List Made) → AllAllowed (grammar_of g) w calls → (copy : List ℕ)
      → history g w copy calls ≡ history_in (grammar_of g) w copy calls
  unfolding history history_in
  history-passed [] a copy = refl
  history-passed (m ∷ calls) a copy =
      let e = says-passed m a.0 copy in
      ap₂ ◌∷◌ e (history-passed calls a.1 (copied (says g w copy m) copy)
      ∙ ap (λ (c : List ℕ). history_in (grammar_of g) w c calls) (ap₂ copied e refl))

  pub walk-holds : (tree : Dec (HasTree (grammar_of g) w)) (calls : List Made) → AllAllowed (grammar_of g) w calls
      → history g w [] calls ≡ walked (grammar_of g) w tree (map which calls) 0
  walk-holds tree calls a =
      history-passed calls a [] ∙ walk-holds-in (grammar_of g) (valid-bounded g valid) w high tree calls a

  pub tree-decided : Dec (HasTree (grammar_of g) w)
  tree-decided = Decided.tree-decided (grammar_of g) (valid-bounded g valid) w high
