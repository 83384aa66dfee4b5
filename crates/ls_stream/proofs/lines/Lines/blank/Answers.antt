use Rattle.std.proofs.Common.{◌≤◌, sym, subst}
use Rattle.ls_keep.specs.Kept.{KeptLines as KeptNumbered}
use Rattle.ls_stream.proofs.Moving.{room_stays}
use Rattle.ls_stream.proofs.lines.Lines.blank.Goals as goal

pub returns-in_err-text-clause-rest : goal.returns-in_err-text-clause-rest
returns-in_err-text-clause-rest c =
    room_stays c.args.self.now c.reserve.new.self c.blank.new.self c.in_ok-reserve.ensures.rest c.in_err-text.ensures.rest

pub returns-clause-rest : goal.returns-clause-rest
returns-clause-rest c =
    room_stays c.args.self.now c.reserve.new.self c.blank.new.self c.in_ok-reserve.ensures.rest c.in_ok-text.ensures.rest

pub returns-clause-room : goal.returns-clause-room
returns-clause-room c =
    subst (λ (k : KeptNumbered). 1 ≤ k.spare) (sym c.in_ok-text.ensures.rest) c.in_ok-reserve.ensures.room
