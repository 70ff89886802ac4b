-- Whether a command is out of turn, by what has been read before it. Assumes nothing.
use Rattle.std.specs.Prelude.{ℕ, Bool, cond, ◌&&◌, ◌||◌, not, eqb, ltb}
use Rattle.results.specs.Load.{adds_place}
use Rattle.load_commands.specs.declared.opcode.Turn.{Turn}

-- what has been read before an offset: this many rules, and for the last one a name of this word
abbrev pub turn_with : (at rules word : ℕ) → Turn
turn_with at rules word = record { started = ltb 0 at; opened = ltb 0 rules; named = not (eqb word 0) }

-- a 10 that is not first, another command that is, a second name for a rule, and a place or a name before any 20 or 21
abbrev pub late : ℕ → Turn → Bool
late c t =
    cond (eqb c 0x10) t.started
    (not t.started || cond (eqb c 0x60) (t.named || not t.opened) (adds_place c && not t.opened))
