use Rattle.std.proofs.Common.{◌-◌, slice_get, sym, ◌∙◌, ap, subst}
use Rattle.ls_event.specs.Cuts.{is_pending}
use Rattle.ls_seated.specs.Seats.{SeatSeen, IsReady, slot_of}
use Rattle.ls_sight.proofs.Reading.{read_is}
use Rattle.ls_taking.specs.Groups.{SubSeen}
use Rattle.ls_taking.proofs.seats.SubSeats.pending.Goals as goal

pub pending-requires : goal.pending-requires
pending-requires g c =
    let t = c.requires.seat in
    let there = ap (λ (x : SubSeen). slice_get x.seats (c.args.rank - 1)) c.self.view_is ∙ t.1 in
    let same = read_is c.self.inside.seats.items (c.args.rank - 1) c.index.result.now t.0 c.index.ensures there in
    subst (λ (x : SeatSeen). IsReady x c.args.item.now) (sym same) t.2

pub returns : goal.returns
returns g c t at =
    let h = c.args.item.now.item.history in
    let p = c.args.item.now.item.shape in
    let x = c.index.result.now in
    let there = ap (λ (y : SubSeen). slice_get y.seats (c.args.rank - 1)) c.self.view_is ∙ at in
    let same = read_is c.self.inside.seats.items (c.args.rank - 1) x t c.index.ensures there in
    c.pending.ensures ∙ ap (λ (y : SeatSeen). is_pending h (slot_of p h y.plan y.list)) same
