use Rattle.std.proofs.Common.{◌≡◌, sym, ◌∙◌, ap, subst}
use Rattle.ls_event.specs.Cuts.{is_pending}
use Rattle.ls_cell.specs.Cell.{HasSlot}
use Rattle.ls_cell.specs.Numbered.{slot_at}
use Rattle.ls_seated.specs.Seats.{SeatedItem, IsReady, slot_of}
use Rattle.ls_seated.proofs.Seating.{side_live}
use Rattle.ls_seated.proofs.Ready.{ready_whole}
use Rattle.ls_seated.proofs.seated.Seated.pending.Goals as goal

pub pending-requires : goal.pending-requires
pending-requires g c =
    let i = c.self.inside in
    let t = c.args.seat.now in
    let ready = subst (λ (x : SeatedItem). IsReady t x) (sym c.self.view_is) c.requires in
    subst (λ n. HasSlot i.live.cell n) (sym c.number.ensures)
    (side_live i.live i.sides.items t.number ready.of.side c.self.invariant ready.of.at)

pub returns : goal.returns
returns g c =
    let i = c.self.inside in
    let t = c.args.seat.now in
    let ready = subst (λ (x : SeatedItem). IsReady t x) (sym c.self.view_is) c.requires in
    let w = ready_whole i.live i.sides.items t c.self.invariant ready in
    subst (λ (x : SeatedItem). c.pending.result ≡ is_pending x.item.history (slot_of x.item.shape x.item.history t.plan t.list))
    c.self.view_is
    (c.pending.ensures w.slots w.slot w.cell (ap (slot_at w.slots) c.number.ensures ∙ w.at)
    ∙ ap (is_pending i.live.history) w.same)
