use Rattle.std.proofs.Common.{◌≡◌, List, Option, Some, sym, ◌∙◌, ap, subst, IfOk}
use Rattle.ls_event.specs.Cuts.{cut}
use Rattle.ls_event.specs.Slots.{Slot}
use Rattle.ls_cell.specs.Cell.{HasSlot, StandsCell}
use Rattle.ls_cell.specs.Numbered.{slot_at}
use Rattle.ls_cell.proofs.Arrivals.{ok_with}
use Rattle.ls_seated.specs.Seats.{SeatedItem, IsReady, slot_of}
use Rattle.ls_seated.proofs.Seating.{side_live}
use Rattle.ls_seated.proofs.Ready.{ready_whole}
use Rattle.ls_seated.proofs.seated.Seated.look.Goals as goal

pub look-requires : goal.look-requires
look-requires g c =
    let i = c.self.inside in
    let t = c.args.seat.now in
    let ready = subst (λ (x : SeatedItem). IsReady t x) (sym c.self.view_is) c.requires in
    subst (λ n. HasSlot i.live.cell n) (sym c.number.ensures)
    (side_live i.live i.sides.items t.number ready.of.side c.self.invariant ready.of.at)

pub returns-clause-cut : goal.returns-clause-cut
returns-clause-cut g c =
    let i = c.self.inside in
    let t = c.args.seat.now in
    let ready = subst (λ (x : SeatedItem). IsReady t x) (sym c.self.view_is) c.requires in
    let w = ready_whole i.live i.sides.items t c.self.invariant ready in
    subst (λ (x : SeatedItem). IfOk c.look.result
    (λ taken. taken ≡ cut x.item.history (slot_of x.item.shape x.item.history t.plan t.list))) c.self.view_is
    (ok_with
    (λ taken. (ss : List (Option Slot)) (s : Slot) → StandsCell i.live.cell ss i.live.history → slot_at ss c.number.result ≡ Some s
    → taken ≡ cut i.live.history s)
    (λ taken. taken ≡ cut i.live.history (slot_of i.live.shape i.live.history t.plan t.list)) c.look.result
    (λ taken own. own w.slots w.slot w.cell (ap (slot_at w.slots) c.number.ensures ∙ w.at) ∙ ap (cut i.live.history) w.same)
    c.look.ensures.cut)
