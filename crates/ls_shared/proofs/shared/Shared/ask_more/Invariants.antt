use Rattle.std.proofs.Common.{◌≡◌, List}
use mathlib.Core.List.{IsPrefix}
use Rattle.ls_told.specs.Seen.{SeesMore, Watched}
use Rattle.ls_live_session.specs.Lives.{Lives}
use Rattle.ls_shared.specs.Asking.{GoesRound}
use Rattle.ls_shared.proofs.shared.Shared.ask_more.Given as goal

abbrev pub invariant-loop : goal.invariant-loop
invariant-loop g l =
    (l.parts.number ≡ l.fn.parts.number)
    × (l.parts.place ≡ l.fn.parts.place)
    × (l.parts.history.table ≡ l.fn.parts.history.table)
    × Lives g.N.House.deed.config l.parts.number l.parts.history.list l.parts.watches.items l.parts.subs.items l.parts.session
    × SeesMore l.fn.parts.watches.items l.parts.watches.items
    × IsPrefix l.fn.parts.history.list l.parts.history.list
    × ((held : List Watched) → GoesRound g.N.House.deed.config l.fn.parts.number l.fn.parts.history.list held l.fn.parts.watches.items
    l.fn.parts.subs.items l.fn.parts.session
    → GoesRound g.N.House.deed.config l.parts.number l.parts.history.list held l.parts.watches.items l.parts.subs.items l.parts.session)
