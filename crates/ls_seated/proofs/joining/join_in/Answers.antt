use Rattle.std.proofs.Common.{ℕ, List, [], Option, sym, ◌∙◌, ap, subst}
use Rattle.ls_event.specs.Joining.{plan_of, joined, rows_asked}
use Rattle.ls_event.specs.Slots.{Slot}
use Rattle.ls_cell.specs.Numbered.{free_number, put_slot}
use Rattle.ls_live.specs.Live.{HeldItem}
use Rattle.ls_seated.specs.declared.planned.Planned.{Planned}
use Rattle.ls_seated.specs.Seats.{SideSeen, SeatSeen, IsSeated, IsAt, joined_side, planned_at}
use Rattle.ls_seated.proofs.Tied.{at_joined}
use Rattle.ls_seated.proofs.Seating.{item_free, item_joined}
use Rattle.ls_seated.proofs.joining.join_in.Goals as goal

pub seat_in-requires-clause-number : goal.seat_in-requires-clause-number
seat_in-requires-clause-number g c =
    item_free c.args.live.now c.args.sides.now.items c.in-Ok-join.joined.slot c.requires.seated c.in-Ok-join.ensures.number
    ∙ ap free_number (sym c.prepare.ensures.same)

pub returns-clause-seated : goal.returns-clause-seated
returns-clause-seated g c =
    let i = c.args.live.now in
    let ds = c.args.sides.now.items in
    let a = c.args.asked in
    let t = c.seat_in.result in
    let slot : Slot = joined (plan_of i.shape i.history a.mode a.size) i.history (rows_asked a.snapshot) in
    let plan = ap (λ (x : SeatSeen). x.plan) c.seat_in.ensures.seat
    ∙ ap (λ (n : ℕ). planned_at a.mode a.size a.snapshot n) c.number-base.ensures in
    let is = subst (λ (q : Planned). IsAt i.shape i.history q [] slot) (sym plan)
    (at_joined i.shape i.history a.mode a.size a.snapshot c.requires.some) in
    let sides = c.seat_in.ensures.sides
    ∙ ap (λ (x : List (Option SideSeen)). put_slot x (joined_side t)) c.prepare.ensures.same in
    subst (λ (x : HeldItem × List (Option SideSeen)). IsSeated x.0 x.1)
    (λ k. (sym (c.show.ensures.same ∙ c.in-Ok-join.ensures.rest) k, sym sides k))
    (item_joined i c.join.new.self.cell ds (joined_side t) slot c.requires.seated is c.in-Ok-join.ensures.stands)

pub returns-clause-number : goal.returns-clause-number
returns-clause-number g c =
    ap (λ (x : SeatSeen). x.number) c.seat_in.ensures.seat
    ∙ item_free c.args.live.now c.args.sides.now.items c.in-Ok-join.joined.slot c.requires.seated c.in-Ok-join.ensures.number
