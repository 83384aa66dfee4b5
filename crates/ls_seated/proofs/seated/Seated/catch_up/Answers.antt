use Rattle.std.proofs.Common.{length, ap, sym, subst}
use Rattle.std.specs.Result.{OnOk}
use mathlib.Core.List.{IsPrefix}
use Rattle.ls_cell.specs.Numbered.{slot_at}
use Rattle.ls_live.specs.Live.{HeldItem}
use Rattle.ls_seated.specs.Seats.{SeatedItem, IsSeatOf}
use Rattle.ls_seated.proofs.Seating.{tied_at}
use Rattle.ls_seated.proofs.Ready.{ready_caught}
use Rattle.ls_seated.proofs.seated.Seated.catch_up.Goals as goal

pub returns-clause-ready : goal.returns-clause-ready
returns-clause-ready g c =
    let i = c.self.inside in
    let t = c.args.seat.now in
    let of = subst (λ (x : SeatedItem). IsSeatOf t x) (sym c.self.view_is) c.requires.seat in
    let said = c.catch_up_in.ensures in
    ready_caught c.catch_up_in.result i.live c.catch_up_in.new.live i.sides.items c.catch_up_in.new.sides.items t
    c.catch_up_in.new.seat (length i.live.history)
    (tied_at (slot_at i.sides.items t.number) t of.side of.at of.table of.plan) said.sides
    (ap (λ (x : HeldItem). x.history) said.live) said.cuts said.last said.seat

pub returns-clause-begins : goal.returns-clause-begins
returns-clause-begins g c =
    subst (λ (x : SeatedItem). OnOk c.catch_up_in.result (IsPrefix c.args.watch.now.list x.item.history)) c.self.view_is
    c.catch_up_in.ensures.begins
