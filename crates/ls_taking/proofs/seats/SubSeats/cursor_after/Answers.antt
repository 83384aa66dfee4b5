use Rattle.std.proofs.Common.{◌-◌, ℕ, slice_get, ◌∙◌, ap}
use Rattle.ls_seated.specs.Seats.{SeatSeen}
use Rattle.ls_sight.proofs.Reading.{read_is}
use Rattle.ls_taking.specs.Groups.{SubSeen}
use Rattle.ls_taking.specs.Taking.{cursor_after}
use Rattle.ls_taking.proofs.seats.SubSeats.cursor_after.Goals as goal

pub returns : goal.returns
returns g c t at =
    let there = ap (λ (x : SubSeen). slice_get x.seats (c.args.rank - 1)) c.self.view_is ∙ at in
    let same = read_is c.self.inside.seats.items (c.args.rank - 1) c.index.result.now t c.index.ensures there in
    c.moved.ensures ∙ ap (λ (n : ℕ). cursor_after n c.args.taken.now) (c.cursor.ensures ∙ ap (λ (x : SeatSeen). x.cursor) same)
