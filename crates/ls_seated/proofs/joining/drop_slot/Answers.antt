use Rattle.std.proofs.Common.{List, Option, sym, subst}
use Rattle.ls_cell.specs.Numbered.{slot_at}
use Rattle.ls_live.specs.Live.{HeldItem}
use Rattle.ls_live.proofs.Keeping.{some_value}
use Rattle.ls_seated.specs.Seats.{SideSeen, IsSeated}
use Rattle.ls_seated.proofs.Seating.{side_live, item_left}
use Rattle.ls_seated.proofs.joining.drop_slot.Goals as goal

pub leave-requires : goal.leave-requires
leave-requires g c =
    let ds = c.args.sides.now.items in
    let d = some_value (slot_at ds c.args.number) c.requires.side in
    side_live c.args.live.now ds c.args.number d.0 c.requires.seated d.1

pub returns-clause-seated : goal.returns-clause-seated
returns-clause-seated g c =
    let ds = c.args.sides.now.items in
    let d = some_value (slot_at ds c.args.number) c.requires.side in
    subst (λ (x : HeldItem × List (Option SideSeen)). IsSeated x.0 x.1) (λ k. (sym c.leave.ensures.rest k, sym c.clear.ensures k))
    (item_left c.args.live.now c.leave.new.self.cell ds c.args.number d.0 c.requires.seated d.1 c.leave.ensures.stands)
