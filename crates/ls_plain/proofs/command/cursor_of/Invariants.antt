use Rattle.std.proofs.Common.{◌≡◌, drop, map}
use Rattle.ls_event.specs.CommandCuts.{key_cursor}
use Rattle.ls_plain.specs.Plain.{key_cursor_of}
use Rattle.ls_plain.proofs.command.cursor_of.Given as goal

-- the key isn't among the first
abbrev pub invariant-loop-turn : goal.invariant-loop-turn
invariant-loop-turn l = key_cursor (map key_cursor_of (drop l.turn-index l.turns)) l.cursor l.key ≡ key_cursor (map key_cursor_of l.turns) l.cursor l.key
