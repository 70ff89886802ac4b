-- What `node` and `row` find in an offered derivation e. Node i of e is the two numbers at 2 * i (how many bytes it covers) and 2 * i + 1
-- (its rule). A mask is a set of nonterminals, as a word of crate sets. Assumes nothing.
use Rattle.std.specs.Prelude.{ℕ, ◌+◌, ◌*◌, ◌≤◌, ◌<◌, true, false, List, ◌++◌, ◌≡◌, length, get_or, drop}
use Rattle.std.proofs.Math.Seq.{slice}
use Rattle.sizes.specs.Sizes.{max_rules, max_nodes}
use Rattle.sets.specs.Set.{has}
use Rattle.cfg.specs.Grammar.{Cfg, Symbol, nonterminal, terminal, Terminal, fits}
use Rattle.cfg.specs.Tree.{Forest, yield, nodes, code, Fits}
use Rattle.cfg.specs.Derivation.{Superfluous}
use Rattle.theory_enumeration.specs.Rows.{Free}
use Rattle.packed.specs.Packed.{left_in, place_count, symbol_in}
use Rattle.check_walk.specs.declared.walk.Step.{Step}
use Rattle.check_walk.specs.declared.walk.Step.TheVariants.{No, End, Byte, Node}

-- there is a forest for the places over the bytes `from` to `to`, without superfluous recursion and free of the mask over `cover` bytes; e
-- has its code from node `at` on, `next` is the node after it, and e has n nodes
pub record Walked (G : Cfg) (w e : List ℕ) (n cover mask : ℕ) (places : List Symbol) (at from to next : ℕ) : Type 0 where
  pub forest : Forest
  pub fit : Fits G places forest
  pub plain : ¬ Superfluous G forest
  pub free : Free G cover mask forest
  pub covers : yield forest ≡ slice from to w
  pub coded : code forest ++ drop (2 * next) e ≡ drop (2 * at) e
  pub ends : next ≡ at + nodes forest
  pub inside : next ≤ n

-- r is below the bound and has the property, or no number has it
pub record Answers (P : ℕ → Type 0) (bound r : ℕ) : Type 0 where
  pub found : r < bound → P r
  pub none : bound ≤ r → (s : ℕ) → P s → ⊥

-- what `node` and `row` require: e has n nodes, at most 512, and the bytes `from` to `to` are at most `cover` bytes of w
pub record Room (w e : List ℕ) (n cover at from to : ℕ) : Type 0 where
  pub few : n ≤ max_nodes
  pub long : 2 * n ≤ length e
  pub before : at ≤ n
  pub rising : from ≤ to
  pub known : to ≤ length w
  pub narrow : to ≤ from + cover

-- node `at` of e covers c bytes and has rule r; r is a rule of the nonterminal k, and the mask does not have k
pub record RuleOpens (p e : List ℕ) (n mask k c at r : ℕ) : Type 0 where
  pub inside : at < n
  pub covers : get_or e (2 * at) 0 ≡ c
  pub number : get_or e (2 * at + 1) 0 ≡ r
  pub low : r < max_rules
  pub used : k < 32
  pub left : left_in p r ≡ k
  pub fresh : has k mask ≡ false

-- what comes next at place q of rule r: the row's end, a byte that fits, a node of k over c bytes, or none
pub data OfferedLooked (p w e : List ℕ) (n r q at from to : ℕ) : Step → Type 0 where
  at_end : place_count p r ≤ q → from ≡ to → OfferedLooked p w e n r q at from to End
  not_end : place_count p r ≤ q → (from ≡ to → ⊥) → OfferedLooked p w e n r q at from to No
  at_byte : {t : Terminal} → q < place_count p r → symbol_in p r q ≡ terminal t → from < to → fits t (get_or w from 0) ≡ true
      → OfferedLooked p w e n r q at from to Byte
  not_byte : {t : Terminal} → q < place_count p r → symbol_in p r q ≡ terminal t → (from < to → fits t (get_or w from 0) ≡ true → ⊥)
      → OfferedLooked p w e n r q at from to No
  at_node : {k c : ℕ} → q < place_count p r → symbol_in p r q ≡ nonterminal k → at < n → get_or e (2 * at) 0 ≡ c → from + c ≤ to
      → OfferedLooked p w e n r q at from to (Node k c)
  not_node : {k : ℕ} → q < place_count p r → symbol_in p r q ≡ nonterminal k → (at < n → from + get_or e (2 * at) 0 ≤ to → ⊥)
      → OfferedLooked p w e n r q at from to No
