use Rattle.ls_acts.proofs.JoinedSlots.{joins_is, joined_as}
use Rattle.std.proofs.Common.{ap, is_some}
use Rattle.ls_acts.proofs.joining.join.Goals as goal

pub returns-in-Some-clause-joined : goal.returns-in-Some-clause-joined
returns-in-Some-clause-joined g c =
    joins_is (g.S.ItemSlots.stands c.args.slots.now) (g.S.ItemSlots.stands c.join.new.self) c.args.item.now c.in_ok-joined.joined c.in-Some.number
    c.in-Some.is c.in_ok-joined.ensures.joined

pub returns-in-Some-clause-one : goal.returns-in-Some-clause-one
returns-in-Some-clause-one g c =
    joined_as (g.S.ItemSlots.stands c.args.slots.now) (g.S.ItemSlots.stands c.join.new.self) c.args.item.now c.in_ok-joined.joined c.in-Some.number
    c.in-Some.is c.in_ok-joined.ensures.joined (λ items lives st. c.in_ok-joined.ensures.may items lives st (ap is_some c.in-Some.is))
