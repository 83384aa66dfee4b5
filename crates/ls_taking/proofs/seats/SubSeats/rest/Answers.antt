use Rattle.std.proofs.Common.{◌≡◌, ◌-◌, Bool, true, false, not, slice_get, slice_set, refl, sym, ◌∙◌, ap, subst}
use Rattle.ls_event.specs.Cuts.{is_pending}
use Rattle.ls_seated.specs.Seats.{SeatSeen, IsReady, slot_of}
use Rattle.ls_sight.proofs.Reading.{read_is}
use Rattle.ls_taking.specs.Groups.{SubSeen}
use Rattle.ls_taking.proofs.seats.SubSeats.rest.Goals as goal

pub pending-quiet-requires : goal.pending-quiet-requires
pending-quiet-requires g c =
    let t = c.requires.seat in
    let there = ap (λ (x : SubSeen). slice_get x.seats (c.args.rank - 1)) c.self.view_is ∙ t.1 in
    let same = read_is c.self.inside.seats.items (c.args.rank - 1) c.index_mut-seat.result.now t.0 c.index_mut-seat.ensures.value there in
    subst (λ (x : SeatSeen). IsReady x c.args.item.now) (sym same) t.2

pub returns : goal.returns
returns g c t at =
    let h = c.args.item.now.item.history in
    let p = c.args.item.now.item.shape in
    let there = ap (λ (x : SubSeen). slice_get x.seats (c.args.rank - 1)) c.self.view_is ∙ at in
    let same = read_is c.self.inside.seats.items (c.args.rank - 1) c.index_mut-seat.result.now t c.index_mut-seat.ensures.value there in
    let quiet = not c.pending-quiet.result in
    let seat = c.keep_quiet.ensures ∙ ap (λ (x : SeatSeen). record x { quiet = quiet }) same in (
      quiet,
      (λ k. record {
        sub = (c.self.view_is k).sub;
        seats = slice_set (c.self.view_is k).seats (c.args.rank - 1) (seat k);
      }),
      λ is. ap (λ (x : SeatSeen). is_pending h (slot_of p h x.plan x.list)) (sym same) ∙ (sym c.pending-quiet.ensures ∙ off c.pending-quiet.result is),
    )
  where
    off : (b : Bool) → not b ≡ true → b ≡ false
    off true is = absurd (let x : false ≡ true = is in cc)
    off false is = refl
