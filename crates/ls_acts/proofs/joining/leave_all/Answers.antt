use Rattle.ls_acts.proofs.Leaving.{left_next, all_left}
use Rattle.ls_acts.proofs.joining.leave_all.Goals as goal

pub loop-slot-preserved : goal.loop-slot-preserved
loop-slot-preserved g c = λ declared lives left vs st is leave.
    left_next (g.S.ItemSlots.stands c.loop-slot.slots) (g.S.ItemSlots.stands c.leave.new.self) declared vs left c.loop-slot.slot-index c.args.refs.now _
    is c.loop-slot-test.true (c.loop-slot.invariant declared lives left vs st is leave) c.leave.ensures

pub returns : goal.returns
returns g c = λ declared lives left vs st is leave.
    all_left (g.S.ItemSlots.stands c.loop-slot.slots) declared vs left c.loop-slot.slot-index c.args.refs.now is c.loop-slot-test.false
    (c.loop-slot.invariant declared lives left vs st is leave)
