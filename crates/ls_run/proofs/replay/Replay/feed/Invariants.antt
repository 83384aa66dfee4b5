use Rattle.std.proofs.Common.{◌≡◌, ◌++◌, List, ℕ, length}
use Rattle.ls_world.specs.Script.{whole_from}
use Rattle.ls_run.specs.Replay.{Progress, progress_after, StandsWithin, StandsFor, Feeds}
use Rattle.ls_run.specs.declared.replay.Fed.TheVariants as fed
use Rattle.ls_run.proofs.replay.Replay.feed.Given as goal

-- the lines that ended before the rest are done, and what they print is written or held back
abbrev pub invariant-loop-rest : goal.invariant-loop-rest
invariant-loop-rest g l =
    (front : List ℕ) × (l.piece ≡ front ++ l.rest)
    × ((p : Progress) → StandsFor l.initial.self p →
    StandsWithin l.self (progress_after p front)
    × Feeds fed.All p.world (whole_from p.carry front) (g.K.Sink.held l.initial.sink) (g.K.Sink.held l.sink) l.self.unwritten)
    × (g.K.Sink.faults l.sink ≡ g.K.Sink.faults l.initial.sink)

abbrev pub decreases-loop-rest : goal.decreases-loop-rest
decreases-loop-rest g l = length l.rest
