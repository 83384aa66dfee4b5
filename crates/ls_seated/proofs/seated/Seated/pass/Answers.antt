use Rattle.std.proofs.Common.{ap, sym, subst}
use Rattle.ls_live.specs.Live.{HeldItem}
use Rattle.ls_seated.specs.Seats.{SeatedItem, IsReady}
use Rattle.ls_seated.proofs.Ready.{ready_passed}
use Rattle.ls_seated.proofs.seated.Seated.pass.Goals as goal

pub returns-clause-ready : goal.returns-clause-ready
returns-clause-ready g c =
    let i = c.self.inside in
    let t = c.args.seat.now in
    let ready = subst (λ (x : SeatedItem). IsReady t x) (sym c.self.view_is) c.requires.ready in
    let said = c.pass_in.ensures in
    ready_passed i.live c.pass_in.new.live i.sides.items c.pass_in.new.sides.items t c.pass_in.new.seat ready
    (ap (λ (x : HeldItem). x.history) said.live) said.sides said.seat said.last
