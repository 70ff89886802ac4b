-- Parse trees of a context-free grammar, over any grammar and any input. Assumes nothing.
use Rattle.std.specs.Prelude.{ℕ, suc, ◌+◌, max, true, List, [], ◌∷◌, ◌++◌, ◌≡◌, length}
use Rattle.cfg.specs.Grammar.{Cfg, Symbol, nonterminal, terminal, Terminal, fits, Of}

-- a forest, a row of siblings: leaves hold a byte of the input; a node (part) has a rule's number and the forest below it. A tree is a
-- forest of one node
pub data Forest : Type 0 where
  end : Forest
  leaf : ℕ → Forest → Forest
  node : ℕ → Forest → Forest → Forest

-- the bytes of the leaves, from the left: the marks that the forest covers
unfoldable pub yield : Forest → List ℕ
yield end = []
yield (leaf m rest) = m ∷ yield rest
yield (node r below rest) = yield below ++ yield rest

-- how many nodes (parts) there are; a leaf is not a node
unfoldable pub nodes : Forest → ℕ
nodes end = 0
nodes (leaf m rest) = nodes rest
nodes (node r below rest) = suc (nodes below + nodes rest)

-- the number of nodes on the longest way down: a node with nothing below it has height 1
unfoldable pub height : Forest → ℕ
height end = 0
height (leaf m rest) = height rest
height (node r below rest) = max (suc (height below)) (height rest)

-- the preorder code: for each node how many bytes it covers, then its rule
unfoldable pub code : Forest → List ℕ
code end = []
code (leaf m rest) = code rest
code (node r below rest) = length (yield below) ∷ r ∷ (code below ++ code rest)

-- the forest has a leaf or a node for each place of a rule, in their order, and each node's own forest fits its rule
pub data Fits (G : Cfg) : List Symbol → Forest → Type 0 where
  fits_end : Fits G [] end
  fits_leaf : {t : Terminal} {m : ℕ} {places : List Symbol} {rest : Forest}
      → fits t m ≡ true → Fits G places rest → Fits G (terminal t ∷ places) (leaf m rest)
  fits_node : {k r : ℕ} {places : List Symbol} {below rest : Forest} (o : Of G r k)
      → Fits G o.the.places below → Fits G places rest → Fits G (nonterminal k ∷ places) (node r below rest)

-- t is a parse tree of the nonterminal k over the input w
abbrev pub Parse : Cfg → ℕ → List ℕ → Forest → Type 0
Parse G k w t = Fits G (nonterminal k ∷ []) t × (yield t ≡ w)

-- a parse tree of the start symbol over the whole input, of any size: a tree of the plate
abbrev pub HasTree : Cfg → List ℕ → Type 0
HasTree G w = (t : Forest) × Parse G G.start w t
