-- A grammar G inside another one, G': rule r of G is rule f r of G'. Trees and derivations of G are renumbered by f. Assumes nothing.
use Rattle.std.specs.Prelude.{ℕ, Bool, true, false, ◌&&◌, List, [], ◌∷◌, ◌≡◌}
use Rattle.std.proofs.Math.Option.{Option, none, some}
use Rattle.cfg.specs.Grammar.{Cfg, Rule, rule}
use Rattle.cfg.specs.Tree.{Forest, end, leaf, node}

-- each rule of G is a rule of G', under the number that f gives
abbrev pub RulesIn : (ℕ → ℕ) → Cfg → Cfg → Type 0
RulesIn f G G' = (r : ℕ) (ρ : Rule) → rule G r ≡ some ρ → rule G' (f r) ≡ some ρ

-- G is inside G': both have one start symbol, and each rule of G is a rule of G'
pub record Embeds (f : ℕ → ℕ) (G G' : Cfg) : Type 0 where
  pub start : G.start ≡ G'.start
  pub rules : RulesIn f G G'

-- the forest with other rule numbers
unfoldable pub renumber : (ℕ → ℕ) → Forest → Forest
renumber f end = end
renumber f (leaf m rest) = leaf m (renumber f rest)
renumber f (node r below rest) = node (f r) (renumber f below) (renumber f rest)

-- the code with other rule numbers: every second number is a rule
unfoldable pub recode : (ℕ → ℕ) → List ℕ → List ℕ
recode f [] = []
recode f (cover ∷ []) = cover ∷ []
recode f (cover ∷ r ∷ e) = cover ∷ f r ∷ recode f e

-- whether there is a rule
unfoldable pub is_rule : Option Rule → Bool
is_rule none = false
is_rule (some ρ) = true

-- whether each rule number of a code has a rule in G
unfoldable pub uses_only : Cfg → List ℕ → Bool
uses_only G [] = true
uses_only G (cover ∷ []) = true
uses_only G (cover ∷ r ∷ e) = is_rule (rule G r) && uses_only G e
