-- One step of loading, by the opcode and the tests in the code. The tests come in the reverse order, the limits first. Assumes nothing.
use Prim.Native.Nat.{ℕ, zero, suc, ◌+◌, ◌-◌, ◌≤◌, ◌<◌}
use native.Mathlib.Omega.{arith}
use mathlib.Core.Bool.{Bool, true, false, cond, not}
use mathlib.Core.List.{List, [], ◌∷◌}
use mathlib.Core.Path.{◌≡◌, refl, sym, ap, ◌∙◌}
use Rattle.std.specs.Prelude.{Result, Ok}
use lib.Dec.{eqb, ltb}
use lib.ListN.{length, get_or}
use borrow.Author.Tests.{lt-ltb, le-ltb, ltb-false, ne_eqb}
use Rattle.theory_words.specs.Name.{valid_name, has_name}
use Rattle.names.specs.Word.{word_of}
use Rattle.grammar.specs.declared.Grammar.{Grammar}
use Rattle.grammar.specs.declared.Symbol.{Symbol}
use Rattle.grammar.specs.declared.Symbol.TheVariants.{Nonterminal, Terminal, Range}
use Rattle.grammar.specs.Setters.{last_year}
use Rattle.grammar.specs.Valid.{names_of}
use Rattle.answers.specs.declared.Refusal.TheVariants as R
use Rattle.answers.specs.declared.Fault.{Fault}
use Rattle.results.specs.Answer.{decide}
use Rattle.results.specs.Load.{fault, stop, next, step, operand_checks, command_checks, carried_out, unknown}
use Rattle.results.specs.Load.{open_named, out_of_turn, refused_name, operands, operand, word, signed, after, open_rule}
use Rattle.results.specs.Load.{with_rule, with_place, with_name}
use Rattle.load_commands.specs.Class.{byte_of}
use Rattle.load_commands.specs.Command.{too_large, header_with, fault_at, rule_command, years_command, place_command, range_command}
use Rattle.load_commands.specs.Command.{name_from}
use Rattle.load_commands.specs.Command.{name_command, end_command, step_of, step_past, ChecksPassed, CommandRead}
use Rattle.load_commands.specs.Turn.{turn_with, late}
use Rattle.load_commands.specs.declared.opcode.Command.{Command}
use Rattle.load_commands.specs.declared.opcode.Command.TheVariants.{Start, Rule, Place, Name, End}
use Rattle.load_commands.specs.declared.opcode.Header.{Header}
use Rattle.load_commands.specs.declared.opcode.Opcode.{Opcode}
use Rattle.load_commands.specs.declared.opcode.Opcode.TheVariants as O
use Rattle.load_commands.specs.declared.opcode.Turn.{Turn}
use Rattle.load_commands.proofs.Parts.{byte-known}

-- ---- the limits: all operands are there, the first of them is a, and it is not too large

module _ (bytes : List ℕ) (at : ℕ) (k : Opcode) (a rules places : ℕ) (room : at + 1 + operands (byte_of k) ≤ length bytes)
    (first : a ≡ operand bytes at 0) where
  -- where the next command is
  two : at + 1 + 1 ≡ at + 2
  two = omega arith

  three : at + 1 + 2 ≡ at + 3
  three = omega arith

  four : at + 1 + 3 ≡ at + 4
  four = omega arith

  eight : at + 1 + 7 ≡ at + 8
  eight = omega arith

  nine : at + 1 + 8 ≡ at + 9
  nine = omega arith

  pub start-passed : k ≡ O.Start → ChecksPassed 2 bytes at (byte_of k) rules places (Ok (Start a))
  unfolding decide operand_checks carried_out operands after
  start-passed e = let r = rw e at room in rw (e, first) (record { means = λ g p q. rw two; bounded = omega arith })

  -- a command c of so many bytes whose only limit is check 5, and what it opens a rule with
  opened-passed : (c : ℕ) (o : Header) (size : ℕ) → 0 < size → at + size ≤ length bytes
      → ((g : Grammar) → step_past 2 bytes at c g
      ≡ decide (fault (ltb 127 g.count) 5 at ∷ []) stop (λ _. next (at + size)
      (with_rule g o.left (signed o.low o.high) o.first o.last)))
      → ChecksPassed 2 bytes at c rules places (rule_command at rules o size)
  unfolding decide
  opened-passed c o size z r h = go (ltb 127 rules) refl
    where
      go : (b : Bool) → ltb 127 rules ≡ b → ChecksPassed 2 bytes at c rules places (cond b (fault_at R.TooManyRules at) (Ok (Rule o size)))
      go true f = record { means = λ g p q. rw (h g, p, f); bounded = tt }
      go false f = record { means = λ g p q. rw (h g, p, f); bounded = (z, r, omega (arith, ltb-false 127 rules f)) }

  pub rule-passed : k ≡ O.Rule → (m : Result Command Fault) (o : Header)
      → o ≡ header_with a (operand bytes at 1) (operand bytes at 2) 0 last_year
      → m ≡ rule_command at rules o 4 → ChecksPassed 2 bytes at (byte_of k) rules places m
  unfolding decide operand_checks carried_out operands after
  rule-passed e m o h i =
      let r = rw e at room in
      let here = header_with a (operand bytes at 1) (operand bytes at 2) 0 last_year in
      rw (e, i, h) (opened-passed 0x20 here 4 (omega arith) (omega arith) (λ g. rw (four, first)))

  -- 21: check 21 before check 5
  pub years-passed : k ≡ O.RuleWithYears → (m : Result Command Fault) (o : Header) (y z : ℕ)
      → y ≡ word (operand bytes at 3) (operand bytes at 4)
      → z ≡ word (operand bytes at 5) (operand bytes at 6) → o ≡ header_with a (operand bytes at 1) (operand bytes at 2) y z
      → m ≡ years_command at rules o → ChecksPassed 2 bytes at (byte_of k) rules places m
  unfolding decide operand_checks carried_out operands after
  years-passed e m o y z ey ez h i =
      let r = rw e at room in
      rw (e, i, h, first, ey, ez) (go r (ltb here.last here.first) refl)
    where
      here : Header
      here = header_with (operand bytes at 0) (operand bytes at 1) (operand bytes at 2) (word (operand bytes at 3) (operand bytes at 4))
          (word (operand bytes at 5) (operand bytes at 6))

      go : at + 1 + 7 ≤ length bytes → (b : Bool) → ltb here.last here.first ≡ b → ChecksPassed 2 bytes at 0x21 rules places
          (cond b (fault_at R.YearsReversed at) (rule_command at rules here 8))
      go r true f = record { means = λ g p q. rw f; bounded = tt }
      go r false f = opened-passed 0x21 here 8 (omega arith) (omega arith) (λ g. rw (f, eight))

  -- a command c of so many bytes whose only limit is check 6, and its symbol s
  place-passed : (c : ℕ) (s : Symbol) (size : ℕ) → 0 < size → at + size ≤ length bytes
      → ((g : Grammar) → step_past 2 bytes at c g
      ≡ decide (fault (ltb 7 (open_rule g).count) 6 at ∷ []) stop (λ _. next (at + size) (with_place g s)))
      → ChecksPassed 2 bytes at c rules places (place_command at places s size)
  unfolding decide
  place-passed c s size z r h = go (ltb 7 places) refl
    where
      go : (b : Bool) → ltb 7 places ≡ b → ChecksPassed 2 bytes at c rules places (cond b (fault_at R.TooManyPlaces at) (Ok (Place s size)))
      go true f = record { means = λ g p q. rw (h g, q, f); bounded = tt }
      go false f = record { means = λ g p q. rw (h g, q, f); bounded = (z, r, omega (arith, ltb-false 7 places f)) }

  pub nonterminal-passed : k ≡ O.Nonterminal → (m : Result Command Fault) → m ≡ place_command at places (Nonterminal a) 2
      → ChecksPassed 2 bytes at (byte_of k) rules places m
  unfolding decide operand_checks carried_out operands after
  nonterminal-passed e m i =
      let r = rw e at room in
      rw (e, i) (place-passed 0x30 (Nonterminal a) 2 (omega arith) (omega arith) (λ g. rw (two, first)))

  pub terminal-passed : k ≡ O.Terminal → (m : Result Command Fault) → m ≡ place_command at places (Terminal a) 2
      → ChecksPassed 2 bytes at (byte_of k) rules places m
  unfolding decide operand_checks carried_out operands after
  terminal-passed e m i =
      let r = rw e at room in
      rw (e, i) (place-passed 0x40 (Terminal a) 2 (omega arith) (omega arith) (λ g. rw (two, first)))

  -- 41: check 16 before check 6
  pub range-passed : k ≡ O.Range → (m : Result Command Fault) (high : ℕ) → high ≡ operand bytes at 1 → m ≡ range_command at places a high
      → ChecksPassed 2 bytes at (byte_of k) rules places m
  unfolding decide operand_checks carried_out operands after
  range-passed e m high o i = let r = rw e at room in rw (e, i, first, o) (go r (ltb (operand bytes at 1) (operand bytes at 0)) refl)
    where
      go : at + 1 + 2 ≤ length bytes → (b : Bool) → ltb (operand bytes at 1) (operand bytes at 0) ≡ b
          → ChecksPassed 2 bytes at 0x41 rules places
          (cond b (fault_at R.RangeReversed at) (place_command at places (Range (operand bytes at 0) (operand bytes at 1)) 3))
      go r true f = record { means = λ g p q. rw f; bounded = tt }
      go r false f = place-passed 0x41 (Range (operand bytes at 0) (operand bytes at 1)) 3 (omega arith) (omega arith)
          (λ g. rw (f, three))

  pub name-room : k ≡ O.Name → at + 1 + 8 ≤ length bytes
  unfolding operands
  name-room e = rw e at room

  -- 60: check 17, of which the comparison with earlier names is left to the step
  pub name-passed : k ≡ O.Name → (m : Result Command Fault) (name : List ℕ) (w : ℕ) (valid : Bool)
      → name ≡ name_from bytes (at + 1) → w ≡ word_of name
      → valid ≡ valid_name name → m ≡ name_command at (at + 1) w valid → ChecksPassed 2 bytes at (byte_of k) rules places m
  unfolding decide operand_checks carried_out operands operand after refused_name
  name-passed e m name w valid n u v i = rw (e, i) (go (name-room e) valid (sym (v ∙ ap valid_name n)))
    where
      compared : (g : Grammar) (b : Bool) → has_name (name_from bytes (at + 1)) (names_of g) ≡ b → step_of bytes (Ok (Name (at + 1) w)) at g
          ≡ decide (fault (has_name (name_from bytes (at + 1)) (names_of g)) 17 at ∷ []) stop
          (λ _. next (at + 1 + 8) (with_name g (name_from bytes (at + 1))))
      compared g true h = rw h
      compared g false h = rw (h, nine)

      go : at + 1 + 8 ≤ length bytes → (b : Bool) → valid_name (name_from bytes (at + 1)) ≡ b
          → ChecksPassed 2 bytes at 0x60 rules places (name_command at (at + 1) w b)
      go r true f = record { means = λ g p q. rw f (compared g _ refl); bounded = (refl, omega arith, f, u ∙ ap word_of n) }
      go r false f = record { means = λ g p q. rw f; bounded = tt }

  pub end-passed : k ≡ O.End → (m : Result Command Fault) → m ≡ end_command (at + 1) (length bytes)
      → ChecksPassed 2 bytes at (byte_of k) rules places m
  unfolding decide operand_checks carried_out operands after
  end-passed e m i = rw (e, i) (go (ltb (at + 1) (length bytes)) refl)
    where
      go : (b : Bool) → ltb (at + 1) (length bytes) ≡ b
          → ChecksPassed 2 bytes at 0x50 rules places (cond b (fault_at R.FurtherByte (at + 1)) (Ok End))
      go true f = record { means = λ g p q. rw f; bounded = tt }
      go false f = record { means = λ g p q. rw f; bounded = tt }

-- ---- the operands of the command c, n of them

module _ (bytes : List ℕ) (at c n : ℕ) (N : n ≡ operands c) (rules places : ℕ) (l : at < length bytes) where
  pub operands_short : length bytes - (at + 1) < n → ChecksPassed 0 bytes at c rules places (fault_at R.UnexpectedEnd (length bytes))
  unfolding decide operand_checks
  operands_short h = record { means = λ g p q. rw (lt-ltb (length bytes) (at + 1 + operands c) (omega arith)); bounded = tt }

  module _ (h : n ≤ length bytes - (at + 1)) (a : ℕ) (first : a ≡ operand bytes at 0) (large : Bool) (e : large ≡ too_large c a) where
    operands-room : at + 1 + operands c ≤ length bytes
    operands-room = omega arith

    operands-test : large ≡ too_large c (operand bytes at 0)
    operands-test = rw first at e

    pub operands-large : large ≡ true → ChecksPassed 0 bytes at c rules places (fault_at R.NonterminalTooLarge at)
    unfolding decide operand_checks
    operands-large f =
        record { means = λ g p q. rw (le-ltb (length bytes) (at + 1 + operands c) operands-room, ← operands-test, f); bounded = tt }

    pub operands-read : large ≡ false → (m : Result Command Fault) → ChecksPassed 2 bytes at c rules places m
        → ChecksPassed 0 bytes at c rules places m
    unfolding decide operand_checks
    operands-read f m P = record {
      means = λ g p q. rw (le-ltb (length bytes) (at + 1 + operands c) operands-room, ← operands-test, f) (P.means g p q);
      bounded = P.bounded;
    }

-- ---- the whole command

not-pos : (n : ℕ) → not (ltb 0 n) ≡ eqb n 0
not-pos zero = refl
not-pos (suc n) = rw (lt-ltb 0 (suc n) (omega arith), ne_eqb (suc n) 0 (λ e. omega arith))

module _ (bytes : List ℕ) (at rules places word : ℕ) where
  pub reads-ended : length bytes ≤ at → CommandRead bytes at rules places word (fault_at R.UnexpectedEnd (length bytes))
  unfolding decide step
  reads-ended h = record { means = λ g p q n. rw (le-ltb at (length bytes) h); bounded = tt }

  module _ (l : at < length bytes) where
    pub reads-unknown : unknown (get_or bytes at 0) ≡ true → CommandRead bytes at rules places word (fault_at R.UnknownCommand at)
    unfolding decide step command_checks
    reads-unknown u = record { means = λ g p q n. rw (lt-ltb at (length bytes) l, u); bounded = tt }

    module _ (k : Opcode) (byte-here : byte_of k ≡ get_or bytes at 0) (t : Turn) (T : t ≡ turn_with at rules word) (b : Bool)
        (i : b ≡ late (byte_of k) t) where
      known-here : unknown (get_or bytes at 0) ≡ false
      known-here = rw (← byte-here) (byte-known k)

      -- the turn judged by what has been read is the turn judged by the offset and the grammar
      turn-law : (g : Grammar) → g.count ≡ rules → open_named g ≡ not (eqb word 0) → out_of_turn (get_or bytes at 0) at g ≡ b
      unfolding out_of_turn
      turn-law g p n = rw (i, T, byte-here, n, p, not-pos at, not-pos rules)

      pub reads-late : b ≡ true → CommandRead bytes at rules places word (fault_at R.OutOfTurn at)
      unfolding decide step command_checks
      reads-late f = record { means = λ g p q n. rw (lt-ltb at (length bytes) l, known-here, turn-law g p n, f); bounded = tt }

      pub reads-rest : b ≡ false → (m : Result Command Fault) → ChecksPassed 0 bytes at (byte_of k) rules places m
          → CommandRead bytes at rules places word m
      unfolding decide step command_checks
      reads-rest f m P =
          let P' : ChecksPassed 0 bytes at (get_or bytes at 0) rules places m = rw byte-here at P in
          record {
            means = λ g p q n. rw (lt-ltb at (length bytes) l, known-here, turn-law g p n, f) (P'.means g p q);
            bounded = P'.bounded;
          }
