use Rattle.std.proofs.Common.{◌≡◌, ◌≤◌, ◌++◌, List, ℕ, length}
use Rattle.std.specs.declared.option.Option.{Option}
use Rattle.ls_feed.specs.Feeding.{IsReady, Stands}
use Rattle.ls_feed.proofs.feed.Feed.take_lines.Given as goal

-- the lines that ended before the rest are answered
abbrev pub invariant-loop-rest : goal.invariant-loop-rest
invariant-loop-rest g l =
    (front : List ℕ) × (l.piece ≡ front ++ l.rest)
    × ((read : List ℕ) (held : Option (List ℕ)) →
    Stands g.N.House.deed.config l.initial.self read held (g.C.Sink.held l.initial.conn)
    → Stands g.N.House.deed.config l.self (read ++ front) held (g.C.Sink.held l.conn))
    × IsReady g.N.House.deed.config l.self
    × (g.C.Sink.faults l.initial.conn ≤ g.C.Sink.faults l.conn)
    × (g.C.Sink.gives l.conn ≡ g.C.Sink.gives l.initial.conn)

abbrev pub decreases-loop-rest : goal.decreases-loop-rest
decreases-loop-rest g l = length l.rest
