-- The ends and the starts while they are written: what one cell, one column and the flags of one start add to the words. Assumes nothing.
use Rattle.std.specs.Prelude.{ℕ, ◌+◌, ◌*◌, ◌≤◌, ◌<◌, true, false, List, ◌⊎◌, ◌≡◌, length, get_or}
use Rattle.sizes.specs.Sizes.{max_input, max_rules, max_places, nonterminals}
use Rattle.sets.specs.Set.{has}
use Rattle.chart.specs.Cell.{Fit, cell, cuts}
use Rattle.packed.specs.Packed.{place_count}
use Rattle.fill_rule.specs.Flags.{Sets, tail, Cutting}
use Rattle.fill_words.specs.Spans.{ends_size, ends_of, starts_size, starts_of}

-- ---- ends

-- b was added to the ends from i of each member of the word, and nothing else
pub record EndAdded (i b word : ℕ) (ends ends' : List ℕ) : Type 0 where
  pub long : length ends' ≡ ends_size
  pub keeps : (x j : ℕ) → has j (get_or ends x 0) ≡ true → has j (get_or ends' x 0) ≡ true
  pub all : (k : ℕ) → has k word ≡ true → has b (ends_of ends' i k) ≡ true
  pub sound : (x j : ℕ) → has j (get_or ends' x 0) ≡ true
      → (has j (get_or ends x 0) ≡ true) ⊎ ((j ≡ b) × ((k : ℕ) × (k < 32) × (x ≡ nonterminals * i + k) × (has k word ≡ true)))

-- the same, and b was added to the reach of i if the word has a member
pub record CellPut (i b word : ℕ) (ends reach ends' reach' : List ℕ) : Type 0 where
  pub put : EndAdded i b word ends ends'
  pub long : length reach' ≡ max_input
  pub keeps : (x j : ℕ) → has j (get_or reach x 0) ≡ true → has j (get_or reach' x 0) ≡ true
  pub all : (k : ℕ) → has k word ≡ true → has b (get_or reach' i 0) ≡ true
  pub high : (k : ℕ) → 32 ≤ k → has k word ≡ false

-- the spans that are known: those that end before b, and those from the starts before i that end at b
abbrev pub ToldTo : ℕ → ℕ → ℕ → ℕ → Type 0
ToldTo b i a c = (a < c) × ((c < b) ⊎ ((c ≡ b) × (a < i)))

-- the words have the ends of these spans of the chart, and of no other span
pub record EndsTo (chart : List ℕ) (b i : ℕ) (ends reach : List ℕ) : Type 0 where
  pub sound : (a k c : ℕ) → k < 32 → a < c → has c (ends_of ends a k) ≡ true → ToldTo b i a c × (has k (cell chart a c) ≡ true)
  pub all : (a k c : ℕ) → k < 32 → ToldTo b i a c → has k (cell chart a c) ≡ true → has c (ends_of ends a k) ≡ true
  pub high : (a k c : ℕ) → 32 ≤ k → ToldTo b i a c → has k (cell chart a c) ≡ false
  pub reaches : (a k c : ℕ) → ToldTo b i a c → has k (cell chart a c) ≡ true → has c (get_or reach a 0) ≡ true

-- the spans that end before b' are known if those that end before b were
pub record ColumnsPut (chart : List ℕ) (b b' : ℕ) (ends reach ends' reach' : List ℕ) : Type 0 where
  pub long : length ends' ≡ ends_size
  pub reach_long : length reach' ≡ max_input
  pub step : EndsTo chart b 0 ends reach → EndsTo chart b' 0 ends' reach'

-- ---- starts

-- i was added to the starts of rule r at the places from 1 on that its flags have, and nothing else; and to the live starts of the rule
pub record StartAdded (p : List ℕ) (r i flags : ℕ) (starts live starts' live' : List ℕ) : Type 0 where
  pub long : length starts' ≡ starts_size
  pub live_long : length live' ≡ max_rules
  pub keeps : (x j : ℕ) → has j (get_or starts x 0) ≡ true → has j (get_or starts' x 0) ≡ true
  pub all : (q : ℕ) → 0 < q → q < place_count p r → has q flags ≡ true → has i (starts_of starts' r q) ≡ true
  pub sound : (x j : ℕ) → has j (get_or starts' x 0) ≡ true
      → (has j (get_or starts x 0) ≡ true)
      ⊎ ((j ≡ i) × ((q : ℕ) × (0 < q) × (q < place_count p r) × (x ≡ max_places * r + q) × (has q flags ≡ true)))
  pub live_keeps : (x j : ℕ) → has j (get_or live x 0) ≡ true → has j (get_or live' x 0) ≡ true
  pub lives : (q : ℕ) → 0 < q → q < place_count p r → has q flags ≡ true → has i (get_or live' r 0) ≡ true

-- the words of rule r have the starts from j on and before n from which its places cut up to n, and no other start
pub record StartsTold (fit : Fit) (sets : Sets) (p : List ℕ) (r j n : ℕ) (starts : List ℕ) : Type 0 where
  pub sound : (q a : ℕ) → 0 < q → q < place_count p r → has a (starts_of starts r q) ≡ true
      → (j ≤ a) × (a < n) × (cuts fit sets (tail p r q) a n ≡ true)
  pub all : (q a : ℕ) → 0 < q → q < place_count p r → j ≤ a → a < n → cuts fit sets (tail p r q) a n ≡ true
      → has a (starts_of starts r q) ≡ true

-- the starts of these rules from j on are known, and are live
pub record StartsFrom (fit : Fit) (sets : Sets) (p : List ℕ) (rules j n : ℕ) (starts live : List ℕ) : Type 0 where
  pub told : (r : ℕ) → r < rules → StartsTold fit sets p r j n starts
  pub lives : (r q a : ℕ) → r < rules → 0 < q → q < place_count p r → has a (starts_of starts r q) ≡ true → has a (get_or live r 0) ≡ true

-- with the flags of the start i the starts from i on are known if those after i were
pub record FlagsPut (p : List ℕ) (rules i : ℕ) (flags starts live starts' live' : List ℕ) : Type 0 where
  pub long : length starts' ≡ starts_size
  pub live_long : length live' ≡ max_rules
  pub step : (fit : Fit) (sets : Sets) (n : ℕ) → i < n → ((r : ℕ) → r < rules → Cutting fit sets p r i n (get_or flags r 0))
      → StartsFrom fit sets p rules (i + 1) n starts live → StartsFrom fit sets p rules i n starts' live'
