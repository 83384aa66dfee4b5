use Rattle.std.proofs.Common.{◌≡◌, ◌≤◌, ◌<◌}
use Rattle.ls_outside.specs.Causes.{RoseBy}
use Rattle.ls_run.specs.Ran.{Going}
use Rattle.ls_run.proofs.running.play.Given as goal

abbrev pub invariant-loop : goal.invariant-loop
invariant-loop g l =
    Going l.replay (g.S.Source.unread l.initial.source) (g.S.Source.unread l.source) (g.K.Sink.held l.initial.sink) (g.K.Sink.held l.sink)
    × (g.S.Source.faults l.source ≡ g.S.Source.faults l.initial.source)
    × (g.S.Source.waits l.initial.source ≤ g.S.Source.waits l.source)
    × RoseBy l.idles (g.S.Source.waits l.initial.source) (g.S.Source.waits l.source)
    × (g.K.Sink.faults l.sink ≡ g.K.Sink.faults l.initial.sink)
    × (l.idles < 3000)
