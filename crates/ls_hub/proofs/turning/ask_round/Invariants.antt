use Rattle.std.proofs.Common.{◌++◌, ◌≤◌, List}
use Rattle.ls_value.specs.declared.limits.TheConstants.{GREATEST_TICK}
use Rattle.ls_record.specs.Records.{Item, LiveSlot}
use Rattle.ls_cells.specs.Cells.{StandsCells}
use Rattle.ls_session.specs.Record.{Record}
use Rattle.ls_session.specs.Session.{StandsSession}
use Rattle.ls_hub.specs.Turning.{GoesOn}
use Rattle.ls_hub.proofs.turning.ask_round.Given as goal

abbrev pub invariant-loop : goal.invariant-loop
invariant-loop l = (items : List Item) (before behind : List LiveSlot) (r : Record) → StandsSession l.initial.session r → r.floor ≤ l.now
    → l.now ≤ GREATEST_TICK → StandsCells l.initial.cells items (before ++ r.session.board.round ++ behind)
    → GoesOn l.now items l.epoch before behind r l.session l.cells
