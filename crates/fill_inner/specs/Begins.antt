-- Where inner cuts of a span begin, found from spans as bits: what is known of a rule at one start, and what is promised of the places that
-- are found. Assumes nothing.
use Rattle.std.specs.Prelude.{ℕ, ◌+◌, ◌≤◌, ◌<◌, Bool, true, false, List, ◌↔◌, ◌≡◌, length, get_or}
use Rattle.sizes.specs.Sizes.{max_rules}
use Rattle.sets.specs.Set.{has}
use Rattle.chart.specs.Cell.{Fit, cuts}
use Rattle.packed.specs.Packed.{place_count, is_nonterminal_in, terminal_in}
use Rattle.packed_fit.specs.Fit.{entry_in}
use Rattle.fill_rule.specs.Flags.{Sets, tail, Cutting, InnerAt, Inner}
use Rattle.fill_words.specs.Spans.{ends_of, starts_of}
use Rattle.fill_words.specs.Ends.{StartsTold}

-- the words of the start i have the members of the sets of the spans from i that end before n
pub record EndsTold (sets : Sets) (i n : ℕ) (ends : List ℕ) : Type 0 where
  pub exact : (k b : ℕ) → k < 32 → i < b → b < n → has b (ends_of ends i k) ≡ has k (sets i b)
  pub high : (k b : ℕ) → 32 ≤ k → i < b → b < n → has k (sets i b) ≡ false

-- what is known of rule r at the start i: fits has the places of its terminals that fit position i, last has its flags at the end n
pub record InnerKnown (fit : Fit) (sets : Sets) (p : List ℕ) (r i n fits : ℕ) (ends starts : List ℕ) (last : ℕ) : Type 0 where
  pub here : (q : ℕ) → q < place_count p r → is_nonterminal_in p r q ≡ false → has q fits ≡ fit i (terminal_in p r q)
  pub inside : EndsTold sets i n ends
  pub behind : StartsTold fit sets p r (i + 1) n starts
  pub after : Cutting fit sets p r n n last

-- reach has the ends of all spans from i that are not empty, live the starts of all words of rule r
pub record Near (sets : Sets) (p : List ℕ) (r i n : ℕ) (starts : List ℕ) (reach live : ℕ) : Type 0 where
  pub reaches : (k b : ℕ) → i < b → b < n → has k (sets i b) ≡ true → has b reach ≡ true
  pub lives : (q a : ℕ) → 0 < q → q < place_count p r → has a (starts_of starts r q) ≡ true → has a live ≡ true

-- f says whether the places q.. of rule r cut the span from a to n, if the starts from j on are known
pub record Follows (fit : Fit) (p : List ℕ) (r q a j n : ℕ) (starts : List ℕ) (last : ℕ) (f : Bool) : Type 0 where
  pub exact : (sets : Sets) → StartsTold fit sets p r j n starts → Cutting fit sets p r n n last → f ≡ cuts fit sets (tail p r q) a n

-- f says whether an inner cut begins at place q
pub record BeginsAt (p : List ℕ) (r q i n fits : ℕ) (ends starts : List ℕ) (last : ℕ) (f : Bool) : Type 0 where
  pub exact : (fit : Fit) (sets : Sets) → InnerKnown fit sets p r i n fits ends starts last → (f ≡ true) ↔ InnerAt fit sets p r i n q

-- v is the set of the places at which an inner cut begins
pub record Begins (p : List ℕ) (r i n fits : ℕ) (ends starts : List ℕ) (last v : ℕ) : Type 0 where
  pub exact : (fit : Fit) (sets : Sets) → InnerKnown fit sets p r i n fits ends starts last → Inner fit sets p r i n v

-- the same if reach and live are right too
pub record BeginsNear (p : List ℕ) (r i n fits : ℕ) (ends starts : List ℕ) (reach live last v : ℕ) : Type 0 where
  pub exact : (fit : Fit) (sets : Sets) → InnerKnown fit sets p r i n fits ends starts last → Near sets p r i n starts reach live
      → Inner fit sets p r i n v

-- the same for each rule below this number, by the fit table t
pub record AllBegin (p : List ℕ) (rules i n : ℕ) (t ends starts : List ℕ) (reach : ℕ) (live lasts insides : List ℕ) : Type 0 where
  pub long : length insides ≡ max_rules
  pub each : (r : ℕ) → r < rules
      → BeginsNear p r i n (entry_in t i r) ends starts reach (get_or live r 0) (get_or lasts r 0) (get_or insides r 0)
