use Rattle.std.proofs.Common.{◌≡◌, ◌-◌, ◌≤◌, take, length}
use Rattle.std.specs.Io.KnownBytes.{Appends}
use Rattle.ls_wire.proofs.http_wire.write_part.Given as goal

abbrev pub invariant-loop-at : goal.invariant-loop-at
invariant-loop-at g l =
    (l.at ≤ length l.piece)
    × Appends (g.K.Sink.held l.initial.sink) (g.K.Sink.held l.sink) (take l.at l.piece)
    × (g.K.Sink.faults l.sink ≡ g.K.Sink.faults l.initial.sink)
    × (g.K.Sink.gives l.sink ≡ g.K.Sink.gives l.initial.sink)

abbrev pub decreases-loop-at : goal.decreases-loop-at
decreases-loop-at g l = length l.piece - l.at
