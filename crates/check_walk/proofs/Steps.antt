-- The steps of `node` and `row`, with premises as the code gives them. Assumes nothing.
use Prim.Native.Nat.{ℕ, suc, ◌+◌, ◌-◌, ◌≤◌, ◌<◌}
use mathlib.Core.List.{List, [], ◌∷◌}
use mathlib.Core.Path.{◌≡◌, sym, ap, subst, ◌∙◌}
use native.Mathlib.Omega.{arith}
use Rattle.sizes.specs.Sizes.{too_many, max_places, max_nodes, max_rules}
use Rattle.sets.specs.Set.{insert}
use Rattle.cfg.specs.Grammar.{Cfg, Symbol, nonterminal, terminal}
use Rattle.packed.specs.Packed.{left_in, place_count, symbol_in, places_from, places_in, cfg_in}
use Rattle.packed.proofs.Laws.{count-le, places-step, places-end, places-start, of-in, in-of, in-of-places}
use Rattle.check_walk.specs.declared.walk.Step.{Step}
use Rattle.check_walk.specs.declared.walk.Step.TheVariants.{No, End, Byte, Node}
use Rattle.theory_enumeration.specs.Rows.{SameSpan}
use Rattle.check_walk.specs.Walk.{Walked, Answers, Room, RuleOpens}
use Rattle.check_walk.specs.Walk.{OfferedLooked, at_end, not_end, at_byte, not_byte, at_node, not_node}
use Rattle.check_walk.proofs.Walks.{walk-unique, walk_end, end-walk, walk-leaf, leaf-walk}
use Rattle.check_walk.proofs.Nodes.{walk-node, Parted, node-walk, Opened, walk-open, open-walk}

-- the answer that there is none
none_answers : {P : ℕ → Type 0} → ((s : ℕ) → P s → ⊥) → Answers P too_many too_many
none_answers f = record { found = λ h. absurd (omega arith); none = λ _. f }

-- answers for one property are answers for another that holds of the same numbers
answers-same : {P Q : ℕ → Type 0} {b r : ℕ} → ((s : ℕ) → P s → Q s) → ((s : ℕ) → Q s → P s) → Answers P b r → Answers Q b r
answers-same {r = r} f g a = record { found = λ h. f r (a.found h); none = λ h s q. a.none h s (g s q) }

module _ (p w e : List ℕ) (n cover mask at from to : ℕ) (room : Room w e n cover at from to) where
  -- the rows for these places
  abbrev Rows : List Symbol → ℕ → Type 0
  Rows places = Walked (cfg_in 0 p) w e n cover mask places at from to

  -- ---- a node

  module _ (k own : ℕ) (span : SameSpan cover mask (to - from) own) where
    -- the rows below the node for these places
    abbrev Below : List Symbol → ℕ → Type 0
    Below places = Walked (cfg_in 0 p) w e n (to - from) (insert k own) places (at + 1) from to

    opens : {next : ℕ} (o : Opened (cfg_in 0 p) w e n own k at from to next) → RuleOpens p e n own k (to - from) at o.rule
    opens o =
        let u = of-in 0 p o.rule k o.of in
        record {
          inside = o.early;
          covers = o.bytes;
          number = o.number;
          low = u.0;
          used = omega (arith, u.1, u.2);
          left = u.1;
          fresh = o.fresh;
        }

    pub node-none : (r : ℕ) → Answers (RuleOpens p e n own k (to - from) at) max_rules r → max_rules ≤ r
        → Answers (Rows (nonterminal k ∷ [])) too_many too_many
    node-none r a h = none_answers (λ s x. let o = open-walk span room.rising room.known x in a.none h o.rule (opens o))

    pub node-some : (r next passed : ℕ) → Answers (RuleOpens p e n own k (to - from) at) max_rules r → r < max_rules → passed ≡ insert k own
        → Answers (Walked (cfg_in 0 p) w e n (to - from) passed (places_from p r 0 (place_count p r - 0)) (at + 1) from to) too_many next
        → Answers (Rows (nonterminal k ∷ [])) too_many next
    node-some r next passed a h same b = answers-same up down (rw same at b)
      where
        it : RuleOpens p e n own k (to - from) at r
        it = a.found h

        small : left_in p r < 32
        small = omega (arith, it.used, it.left)

        up : (s : ℕ) → Below (places_from p r 0 (place_count p r - 0)) s → Rows (nonterminal k ∷ []) s
        up s x =
            walk-open span room.rising room.known room.narrow room.long
            record {
              rule = r;
              of = in-of 0 p r k it.low it.left small;
              early = it.inside;
              bytes = it.covers;
              number = it.number;
              fresh = it.fresh;
              below =
                  subst (λ (l : List Symbol). Below l s) (places-start p r ∙ sym (in-of-places 0 p r k it.low it.left small)) x;
            }

        down : (s : ℕ) → Rows (nonterminal k ∷ []) s → Below (places_from p r 0 (place_count p r - 0)) s
        down s x =
            let o = open-walk span room.rising room.known x in
            let u = of-in 0 p o.rule k o.of in
            let same : o.rule ≡ r = sym o.number ∙ it.number in
            subst (λ (l : List Symbol). Below l s) (u.3 ∙ ap (places_in p) same ∙ sym (places-start p r)) o.below

  -- ---- a row

  module _ (r q : ℕ) where
    -- the places that are left
    abbrev left : List Symbol
    left = places_from p r q (place_count p r - q)

    -- the places after this one
    abbrev later : List Symbol
    later = places_from p r (q + 1) (place_count p r - (q + 1))

    left-cons : (s : Symbol) → q < place_count p r → symbol_in p r q ≡ s → left ≡ s ∷ later
    left-cons s h e =
        let i : suc q ≡ q + 1 = omega arith in
        places-step p r q h ∙ λ z. e z ∷ places_from p r (i z) (place_count p r - i z)

    pub row-none : (s : Step) → OfferedLooked p w e n r q at from to s → s ≡ No → Answers (Rows left) too_many too_many
    row-none s l h = none_answers (go (rw h at l))
      where
        go : OfferedLooked p w e n r q at from to No → (s : ℕ) → Rows left s → ⊥
        go (not_end c d) s x = d (end-walk room.rising room.known (rw (places-end p r q c) at x))
        go (not_byte {t} c y d) s x =
            let u = leaf-walk room.known room.rising (rw (left-cons (terminal t) c y) at x) in
            d u.0 u.1
        go (not_node {k} c y d) s x =
            let u = node-walk room.rising room.known (rw (left-cons (nonterminal k) c y) at x) in
            d u.early u.fitting

    pub row-end : (s : Step) → OfferedLooked p w e n r q at from to s → s ≡ End → Answers (Rows left) too_many at
    row-end s l h = go (rw h at l)
      where
        go : OfferedLooked p w e n r q at from to End → Answers (Rows left) too_many at
        go (at_end c d) = record {
          found = λ _. rw (places-end p r q c) (walk_end room.before d);
          none = λ l. absurd (omega (arith, room.few, room.before));
        }

    pub row-byte : (s : Step) (next : ℕ) → OfferedLooked p w e n r q at from to s → s ≡ Byte
        → Answers (Walked (cfg_in 0 p) w e n cover mask later at (from + 1) to) too_many next → Answers (Rows left) too_many next
    row-byte s next l h a = go (rw h at l)
      where
        go : OfferedLooked p w e n r q at from to Byte → Answers (Rows left) too_many next
        go (at_byte {t} c y d f) =
            rw (left-cons (terminal t) c y)
            (answers-same (λ s. walk-leaf room.known d f) (λ s x. (leaf-walk room.known room.rising x).2) a)

    module _ (s : Step) (k c middle : ℕ) (looked : OfferedLooked p w e n r q at from to s) (is : s ≡ Node k c)
        (first : Answers (Walked (cfg_in 0 p) w e n cover mask (nonterminal k ∷ []) at from (from + c)) too_many middle) where
      pub row-node-none : max_nodes < middle → Answers (Rows left) too_many too_many
      row-node-none h = none_answers (go (rw is at looked))
        where
          go : OfferedLooked p w e n r q at from to (Node k c) → (s : ℕ) → Rows left s → ⊥
          go (at_node b y i d f) s x =
              let u = node-walk room.rising room.known (rw (left-cons (nonterminal k) b y) at x) in
              first.none h u.middle (rw d at u.first)

      pub row-node-some : (next : ℕ) → middle ≤ max_nodes
          → Answers (Walked (cfg_in 0 p) w e n cover mask later middle (from + c) to) too_many next → Answers (Rows left) too_many next
      row-node-some next h a = go (rw is at looked)
        where
          go : OfferedLooked p w e n r q at from to (Node k c) → Answers (Rows left) too_many next
          go (at_node b y i d f) =
              rw (left-cons (nonterminal k) b y)
              (answers-same (λ s. walk-node (omega arith) f room.known (first.found (omega arith)))
              (λ s x. down s (node-walk room.rising room.known x)) a)
            where
              down : (s : ℕ) → Parted (cfg_in 0 p) w e n cover mask k later at from to s
                  → Walked (cfg_in 0 p) w e n cover mask later middle (from + c) to s
              down s u = rw (← walk-unique (rw d at u.first) (first.found (omega arith)), ← d) u.rest

-- ---- what the calls of `row` require

pub byte-room : {p w e : List ℕ} {n r q at from to : ℕ} → OfferedLooked p w e n r q at from to Byte → (q < max_places) × (from < to)
byte-room {p} {r = r} (at_byte a y d f) = (omega (arith, count-le p r), d)

pub node-room : {p w e : List ℕ} {n r q at from to k c : ℕ} → OfferedLooked p w e n r q at from to (Node k c)
    → (q < max_places) × (at < n) × (from + c ≤ to)
node-room {p} {r = r} (at_node a y d f l) = (omega (arith, count-le p r), d, l)

pub walk-room : {G : Cfg} {w e : List ℕ} {n cover mask at from to middle : ℕ} {places : List Symbol}
    → Answers (Walked G w e n cover mask places at from to) too_many middle → middle ≤ max_nodes → (at ≤ middle) × (middle ≤ n)
walk-room a h =
    let x = a.found (omega arith) in
    let y = x.ends in
    (omega arith, x.inside)
