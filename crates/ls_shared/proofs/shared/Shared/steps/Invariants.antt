use Rattle.std.proofs.Common.{◌≡◌}
use mathlib.Core.List.{IsPrefix}
use Rattle.ls_told.specs.Seen.{SeesMore}
use Rattle.ls_live_session.specs.Lives.{Lives}
use Rattle.ls_shared.specs.Asking.{GoesRound}
use Rattle.ls_shared.proofs.shared.Shared.steps.Given as goal

abbrev pub invariant-loop : goal.invariant-loop
invariant-loop g l =
    (goal.iterator-loop g).can_next l.iterator'
    × (goal.iterator-loop g).is_finite l.iterator'
    × (l.parts.number ≡ l.fn.parts.number)
    × (l.parts.place ≡ l.fn.parts.place)
    × (l.parts.history.table ≡ l.fn.parts.history.table)
    × Lives g.N.House.deed.config l.parts.number l.parts.history.list l.parts.watches.items l.parts.subs.items l.parts.session
    × SeesMore l.fn.parts.watches.items l.parts.watches.items
    × IsPrefix l.fn.parts.history.list l.parts.history.list
    × GoesRound g.N.House.deed.config l.parts.number l.parts.history.list l.fn.parts.watches.items l.parts.watches.items l.parts.subs.items
    l.parts.session
