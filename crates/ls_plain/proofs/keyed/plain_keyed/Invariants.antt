use Rattle.std.proofs.Common.{◌≡◌}
use Rattle.ls_event.specs.History.{between}
use Rattle.ls_event.specs.Keyed.{keyed_after_all, keyed}
use Rattle.ls_plain.specs.Shapes.{command_shape}
use Rattle.ls_plain.proofs.keyed.plain_keyed.Given as goal

-- the keys behind the rest of the entries are those behind all
abbrev pub invariant-loop-n : goal.invariant-loop-n
invariant-loop-n l = keyed_after_all (command_shape l.shape) l.rows.items (between l.history l.n l.i) ≡ keyed (command_shape l.shape) l.history l.i
