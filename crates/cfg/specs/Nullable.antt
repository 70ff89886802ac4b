-- Nullable nonterminals (document 01: blank kinds) and the nullable depth (blank depth). Assumes nothing.
use Rattle.std.specs.Prelude.{ℕ, zero, suc, ◌≤◌, ◌<◌, Bool, true, false, cond, ◌&&◌, List, [], ◌∷◌, ◌≡◌, eqb}
use Rattle.std.proofs.Math.Option.{Option, none, some}
use Rattle.sets.specs.Set.{has, insert, empty}
use Rattle.cfg.specs.Grammar.{Cfg, Rule, Symbol, nonterminal, terminal}
use Rattle.cfg.specs.Tree.{Forest, height, Parse}

-- k derives the empty input
abbrev pub Nullable : Cfg → ℕ → Type 0
Nullable G k = (t : Forest) × Parse G k [] t

-- what document 01 says of a depth d: at most 32; 0 if nothing is nullable; and no nullable nonterminal's lowest empty tree is higher
pub record Depth (G : Cfg) (d : ℕ) : Type 0 where
  pub small : d ≤ 32
  pub zero : ((k : ℕ) → Nullable G k → ⊥) → d ≡ 0
  pub reached : (k : ℕ) → Nullable G k → (t : Forest) × Parse G k [] t × (height t ≤ d)

-- ---- the depth to the step

-- each place holds a known nonterminal
unfoldable pub symbols_in : ℕ → List Symbol → Bool
symbols_in known [] = true
symbols_in known (nonterminal k ∷ places) = has k known && symbols_in known places
symbols_in known (terminal t ∷ places) = false

-- what was found so far, and the left sides of the rules each of whose places holds a known nonterminal
unfoldable pub heads : ℕ → List (Option Rule) → ℕ → ℕ
heads known [] found = found
heads known (none ∷ rules) found = heads known rules found
heads known (some ρ ∷ rules) found = heads known rules (cond (symbols_in known ρ.places) (insert ρ.left found) found)

-- the level above a level. A find does not count at once
abbrev pub level_above : Cfg → ℕ → ℕ
level_above G known = heads known G.rules empty

-- level h: the nonterminals that have an empty tree of height at most h
unfoldable pub level : Cfg → ℕ → ℕ
level G zero = empty
level G (suc h) = level_above G (level G h)

-- the first height from h on whose level is `top`, but at most n more; the level of h is given
unfoldable pub first_height : Cfg → ℕ → ℕ → ℕ → ℕ → ℕ
first_height G top zero h given = h
first_height G top (suc n) h given = cond (eqb given top) h (first_height G top n (suc h) (level_above G given))

-- the nullable depth (blank depth): the first height whose level is that of height 32
unfoldable pub depth_of : Cfg → ℕ
depth_of G = first_height G (level G 32) 32 0 empty

-- d is the greatest, over the nullable nonterminals, of the height of the lowest empty tree; 0 if nothing is nullable
pub record ExactDepth (G : Cfg) (d : ℕ) : Type 0 where
  pub small : d ≤ 32
  -- none is higher
  pub reached : (k : ℕ) → Nullable G k → (t : Forest) × Parse G k [] t × (height t ≤ d)
  -- one is as high
  pub needed : 0 < d → (k : ℕ) × Nullable G k × ((t : Forest) → Parse G k [] t → d ≤ height t)
