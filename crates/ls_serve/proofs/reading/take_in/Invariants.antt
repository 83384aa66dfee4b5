use Rattle.std.proofs.Common.{◌≡◌, ◌≤◌, ◌<◌}
use Rattle.std.specs.Io.KnownBytes.{Consumes}
use Rattle.ls_outside.specs.Causes.{RoseBy}
use Rattle.ls_serve.proofs.reading.take_in.Given as goal

-- what was read so far
abbrev pub invariant-loop : goal.invariant-loop
invariant-loop g l =
    Consumes (g.S.Source.unread l.initial.source) (g.S.Source.unread l.source) l.bytes.items
    × (g.S.Source.faults l.source ≡ g.S.Source.faults l.initial.source)
    × (g.S.Source.waits l.initial.source ≤ g.S.Source.waits l.source)
    × RoseBy l.idles (g.S.Source.waits l.initial.source) (g.S.Source.waits l.source)
    × (l.idles < 3000)
