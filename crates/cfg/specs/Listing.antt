-- The list L of all derivations of an input, in rising order, as a function. It tries each cover of the next node from the smallest, for
-- each cover each rule from the smallest, and for each rule it goes on from the left. Assumes nothing.
use Rattle.std.specs.Prelude.{ℕ, zero, suc, Bool, true, false, ◌&&◌, ◌||◌, not, List, [], ◌∷◌, ◌++◌, map, eqb, length, take, drop}
use Rattle.std.proofs.Math.Option.{Option, none, some}
use Rattle.cfg.specs.Grammar.{Cfg, Rule, Symbol, nonterminal, terminal, Terminal, fits}
use Rattle.cfg.specs.Derivation.{limit}

-- the lists that f gives for the elements, joined in their order
unfoldable pub over : {A : Type 0} → List A → (A → List (List ℕ)) → List (List ℕ)
over [] f = []
over (a ∷ l) f = f a ++ over l f

-- the list if the test passes, else the empty list
unfoldable pub when : Bool → (Unit {0} → List (List ℕ)) → List (List ℕ)
when true f = f tt
when false f = []

-- the n numbers from a on
unfoldable pub from : ℕ → ℕ → List ℕ
from a zero = []
from a (suc n) = a ∷ from (suc a) n

-- a node's nonterminal, and how many bytes the node covers
pub record Span : Type 0 where
  pub symbol : ℕ
  pub cover : ℕ

-- whether k over n bytes is among the nodes above
unfoldable pub among : ℕ → ℕ → List Span → Bool
among k n [] = false
among k n (s ∷ above) = (eqb s.symbol k && eqb s.cover n) || among k n above

-- a rule with its number
pub record Numbered : Type 0 where
  pub number : ℕ
  pub places : List Symbol

-- the list with rule number r in front, if that is a rule of the nonterminal k
unfoldable pub keep : ℕ → ℕ → Option Rule → List Numbered → List Numbered
keep k r none l = l
keep k r (some ρ) l = elim (eqb ρ.left k) [ true ↦ record { number = r; places = ρ.places } ∷ l | false ↦ l ]

-- the rules of the nonterminal k among those given, which are numbered from r on
unfoldable pub rules_from : ℕ → ℕ → List (Option Rule) → List Numbered
rules_from k r [] = []
rules_from k r (o ∷ l) = keep k r o (rules_from k (suc r) l)

-- what is to be done next: make a leaf for a terminal; make a node of a nonterminal, below nodes of these spans; or end a row, whose bytes
-- must be used up by then, and go on with these bytes
pub data Item : Type 0 where
  eat : Terminal → Item
  find : ℕ → List Span → Item
  resume : List ℕ → Item

-- the items of a rule's places, below nodes of these spans
unfoldable pub items : List Span → List Symbol → List Item
items above [] = []
items above (nonterminal k ∷ places) = find k above ∷ items above places
items above (terminal t ∷ places) = eat t ∷ items above places

-- the items up to the next node; `found` lists that node with all that comes after it
unfoldable pub up_to : (ℕ → List Span → List Item → List ℕ → List (List ℕ)) → List Item → List ℕ → List (List ℕ)
up_to found [] [] = [] ∷ []
up_to found [] (m ∷ w) = []
up_to found (eat t ∷ todo) [] = []
up_to found (eat t ∷ todo) (m ∷ w) = when (fits t m) (λ _. up_to found todo w)
up_to found (find k above ∷ todo) w = found k above todo w
up_to found (resume v ∷ todo) [] = up_to found todo v
up_to found (resume v ∷ todo) (m ∷ w) = []

-- the codes of all forests of at most b nodes for these items over exactly these bytes, in which no node has the span of a node above it
unfoldable pub listing : Cfg → ℕ → List Item → List ℕ → List (List ℕ)
listing G zero = up_to (λ k above todo w. [])
listing G (suc b) = up_to (λ k above todo w.
    over (from 0 (suc (length w))) λ c.
    when (not (among k c above)) λ _.
    over (rules_from k 0 G.rules) λ ρ.
    map (λ e. c ∷ ρ.number ∷ e)
    (listing G b (items (record { symbol = k; cover = c } ∷ above) ρ.places ++ resume (drop c w) ∷ todo) (take c w)))

-- all derivations of w of at most b nodes, in rising order
unfoldable pub derivations : Cfg → ℕ → List ℕ → List (List ℕ)
derivations G b w = listing G b (find G.start [] ∷ []) w

-- the list L of document 01
abbrev pub L : Cfg → List ℕ → List (List ℕ)
L G w = derivations G limit w
