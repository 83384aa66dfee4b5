use Rattle.std.proofs.Common.{◌-◌, ℕ, slice_get, ◌∙◌, ap}
use Rattle.ls_seated.specs.Seats.{SeatSeen}
use Rattle.ls_sight.proofs.Reading.{read_is}
use Rattle.ls_taking.specs.Groups.{SubSeen}
use Rattle.ls_taking.specs.Taking.{told_to}
use Rattle.ls_taking.proofs.seats.SubSeats.cut_of.Goals as goal

pub returns-clause-numbers : goal.returns-clause-numbers
returns-clause-numbers g c t at =
    let there = ap (λ (x : SubSeen). slice_get x.seats (c.args.slot.place - 1)) c.self.view_is ∙ at in
    let same = read_is c.self.inside.seats.items (c.args.slot.place - 1) c.index-seat.result.now t c.index-seat.ensures there in (
      c.cursor.ensures ∙ ap (λ (x : SeatSeen). x.cursor) same,
      c.upto.ensures ∙ ap (λ (n : ℕ). told_to n c.args.taken.now) (c.cursor-2.ensures ∙ ap (λ (x : SeatSeen). x.cursor) same),
      c.last.ensures ∙ ap (λ (x : SeatSeen). x.last) same,
    )
