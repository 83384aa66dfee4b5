use Rattle.std.proofs.Common.{◌∙◌, ◌++◌, ap, List, ℕ, map}
use Rattle.ls_record.specs.Records.{LiveSlot}
use Rattle.ls_acts.proofs.JoinedSlots.{none_join, first_joins, left_again}
use Rattle.ls_acts.proofs.joining.+join_all.Goals as goal

pub returns-in_default-clause-joined : goal.returns-in_default-clause-joined
returns-in_default-clause-joined g t c = λ declared a b vs st join.
    none_join (g.S.ItemSlots.stands c.args.slots.now) declared a b vs c.args.numbers.now.items c.args.items.now c.in_default.ensures.cases st join

pub returns-in-Ok-clause-joined : goal.returns-in-Ok-clause-joined
returns-in-Ok-clause-joined g t c = λ declared a b vs st join.
    first_joins (g.S.ItemSlots.stands c.args.slots.now) (g.S.ItemSlots.stands c.join.new.slots) (g.S.ItemSlots.stands c.join_all.new.slots)
    declared a b vs c.args.numbers.now.items c.join_all.new.numbers.items c.in-Some.item.now c.in-Some.rest.now c.args.items.now
    c.in_ok-number.number c.in-Some.ensures.cases.0 c.in_ok-number.ensures.joined
    (λ its d e us stands order.
    let r = c.in-Ok.ensures.joined its d e us stands order in
    (r.0 ∙ ap (λ (ns : List ℕ). ns ++ map (λ (v : LiveSlot). v.number) us) c.push_reserved.ensures.items, r.1)) st join

pub returns-in-Err-clause-err : goal.returns-in-Err-clause-err
returns-in-Err-clause-err g t c = λ declared lives st.
    left_again (g.S.ItemSlots.stands c.join.new.slots) (g.S.ItemSlots.stands c.join_all.new.slots) (g.S.ItemSlots.stands c.leave.new.self)
    declared lives c.in-Some.item.now.item c.in_ok-number.number (c.in_ok-number.ensures.one declared lives st) c.in-Err.ensures.err c.leave.ensures
