-- One step of learning, by the opcode and the tests in the code. Assumes nothing.
use Prim.Native.Nat.{ℕ, ◌≤◌, ◌<◌}
use mathlib.Core.Bool.{Bool, true, false, not, ◌&&◌}
use mathlib.Core.List.{List}
use mathlib.Core.Path.{◌≡◌, sym}
use lib.Dec.{eqb}
use lib.ListN.{length, get_or}
use Rattle.grammar.specs.declared.Grammar.{Grammar}
use Rattle.answers.specs.declared.Fault.{Fault}
use Rattle.answers.specs.declared.Refusal.TheVariants as R
use Rattle.std.specs.Prelude.{Result, Ok}
use Rattle.results.specs.Answer.{decide}
use Rattle.results.specs.Load.{unknown, open_named}
use Rattle.results.specs.Learn.{misplaced, learn_checks}
use Rattle.results.proofs.Learning.Run.{learn-past, learn-within}
use Rattle.load_commands.specs.Class.{byte_of}
use Rattle.load_commands.specs.Command.{fault_at, ChecksPassed}
use Rattle.load_commands.specs.declared.opcode.Command.{Command}
use Rattle.load_commands.specs.declared.opcode.Command.TheVariants.{End}
use Rattle.load_commands.specs.declared.opcode.Opcode.{Opcode}
use Rattle.load_commands.proofs.Parts.{byte-known}
use Rattle.learn.specs.Command.{LearnRead}

module _ (bytes : List ℕ) (at rules places word : ℕ) where
  pub learns-ended : length bytes ≤ at → LearnRead bytes at rules places word (Ok End)
  learns-ended h = record { means = λ g p q n. sym (learn-past bytes at g h); bounded = tt }

  module _ (l : at < length bytes) where
    pub learns-unknown : unknown (get_or bytes at 0) ≡ true → LearnRead bytes at rules places word (fault_at R.UnknownCommand at)
    unfolding decide learn_checks
    learns-unknown u = record { means = λ g p q n. rw (learn-within bytes at g l, u); bounded = tt }

    module _ (k : Opcode) (byte-here : byte_of k ≡ get_or bytes at 0) (b : Bool) (i : b ≡ misplaced (byte_of k) at) where
      known-here : unknown (get_or bytes at 0) ≡ false
      known-here = rw (← byte-here) (byte-known k)

      turn-here : misplaced (get_or bytes at 0) at ≡ b
      turn-here = rw (← byte-here) (sym i)

      pub learns-misplaced : b ≡ true → LearnRead bytes at rules places word (fault_at R.NotOneRule at)
      unfolding decide learn_checks
      learns-misplaced f =
          record { means = λ g p q n. rw (learn-within bytes at g l, known-here, turn-here, f); bounded = tt }

      module _ (f : b ≡ false) (s : Bool) (j : s ≡ (eqb (byte_of k) 0x60 && not (eqb word 0))) where
        name-here : (g : Grammar) → open_named g ≡ not (eqb word 0) → (eqb (get_or bytes at 0) 0x60 && open_named g) ≡ s
        name-here g n = rw (← byte-here, n) (sym j)

        pub learns-second : s ≡ true → LearnRead bytes at rules places word (fault_at R.OutOfTurn at)
        unfolding decide learn_checks
        learns-second t = record {
          means = λ g p q n. rw (learn-within bytes at g l, known-here, turn-here, f, name-here g n, t);
          bounded = tt;
        }

        pub learns-rest : s ≡ false → (m : Result Command Fault) → ChecksPassed 0 bytes at (byte_of k) rules places m
            → LearnRead bytes at rules places word m
        unfolding decide learn_checks
        learns-rest t m P =
            let P' : ChecksPassed 0 bytes at (get_or bytes at 0) rules places m = rw byte-here at P in
            record {
              means = λ g p q n. rw (learn-within bytes at g l, known-here, turn-here, f, name-here g n, t) (P'.means g p q);
              bounded = P'.bounded;
            }
