use Rattle.std.proofs.Common.{◌-◌, ◌++◌, ◌∷◌, [], length, false, IsSome, slice_get, slice_set, sym, ◌∙◌, ap, subst}
use Rattle.ls_event.specs.Cuts.{cut}
use Rattle.ls_seated.specs.Seats.{SeatSeen, IsReady, slot_of}
use Rattle.ls_sight.proofs.Reading.{read_is}
use Rattle.ls_taking.specs.Groups.{SubSeen}
use Rattle.ls_taking.proofs.seats.SubSeats.pass.Goals as goal

pub pass-requires-clause-ready : goal.pass-requires-clause-ready
pass-requires-clause-ready g c =
    let t = c.requires.seat in
    let there = ap (λ (x : SubSeen). slice_get x.seats (c.args.rank - 1)) c.self.view_is ∙ t.1 in
    let same = read_is c.self.inside.seats.items (c.args.rank - 1) c.index_mut-seat.result.now t.0 c.index_mut-seat.ensures.value there in
    subst (λ (x : SeatSeen). IsReady x c.args.item.now) (sym same) t.2

pub pass-requires-clause-cut : goal.pass-requires-clause-cut
pass-requires-clause-cut g c =
    let t = c.requires.seat in
    let h = c.args.item.now.item.history in
    let p = c.args.item.now.item.shape in
    let there = ap (λ (x : SubSeen). slice_get x.seats (c.args.rank - 1)) c.self.view_is ∙ t.1 in
    let same = read_is c.self.inside.seats.items (c.args.rank - 1) c.index_mut-seat.result.now t.0 c.index_mut-seat.ensures.value there in
    subst (λ (x : SeatSeen). IsSome (cut h (slot_of p h x.plan x.list))) (sym same) t.3

pub returns-clause-moves : goal.returns-clause-moves
returns-clause-moves g c t at =
    let n = length c.args.item.now.item.history in
    let there = ap (λ (x : SubSeen). slice_get x.seats (c.args.rank - 1)) c.self.view_is ∙ at in
    let same = read_is c.self.inside.seats.items (c.args.rank - 1) c.index_mut-seat.result.now t c.index_mut-seat.ensures.value there in
    let seat = c.keep_cursor.ensures
    ∙ ap (λ (x : SeatSeen). record x { cursor = c.args.cursor })
    (c.pass.ensures.seat ∙ ap (λ (x : SeatSeen). record x { list = x.list ++ n ∷ []; quiet = false }) same) in
    λ k. record {
      sub = (c.self.view_is k).sub;
      seats = slice_set (c.self.view_is k).seats (c.args.rank - 1) (seat k);
    }
