use Rattle.std.proofs.lemmas.Grind.{common_steps}
use Rattle.std.proofs.Common.{◌≡◌, ◌∙◌, sym, subst, arith, rules, length, slice_get, Some}
use Rattle.ls_parts.proofs.Reading.{shape_found}
use Rattle.ls_joining.proofs.Added.{read_at, adding_item, item_sees}
use Rattle.ls_joining.proofs.joining.join_next.Goals as goal

pub join_item-requires-clause-shape : goal.join_item-requires-clause-shape
join_item-requires-clause-shape g c =
    let s = (c.has_item.ensures.of c.if-has_item.true 0).shows in
    s.shape_is ∙ sym (shape_found g.N.House.deed.config c.in-Some.next.now.item s.def s.declared)

pub returns-then-has_item-clause-keeps : goal.returns-then-has_item-clause-keeps
returns-then-has_item-clause-keeps g c = λ es subs k a free r d.
    let many : c.len.result ≡ length c.args.seats.now.items = first_of (omega arith, search rules, grind (arith, common_steps)) in
    let here : slice_get c.args.plan.now.items.items (length c.args.seats.now.items) ≡ Some c.in-Some.next.now =
    subst (λ n. slice_get c.args.plan.now.items.items n ≡ Some c.in-Some.next.now) many
    (subst (λ xs. slice_get xs c.len.result ≡ Some c.in-Some.next.now) c.deref.ensures.value
    (read_at c.deref.result.now c.len.result c.in-Some.next.now c.in-Some.ensures.lookup.3.0 c.in-Some.ensures.lookup.1)) in
    adding_item g.N.House.deed.config c.args.parts.now.number es c.args.parts.now.watches.items c.join_item.new.parts.watches.items subs k a free
    c.args.plan.now c.args.seats.now.items c.join_item.new.seats.items c.args.numbers.now.items c.join_item.new.numbers.items r
    c.args.item.now.item c.in-Some.next.now c.join_item.result here c.join_item.ensures.joins c.join_item.ensures.other c.join_item.ensures.err d

pub returns-then-has_item-clause-more : goal.returns-then-has_item-clause-more
returns-then-has_item-clause-more g c =
    item_sees g.N.House.deed.config c.args.parts.now.watches.items c.join_item.new.parts.watches.items c.args.plan.now.sub
    c.args.seats.now.items c.join_item.new.seats.items c.args.numbers.now.items c.join_item.new.numbers.items
    c.args.item.now.item c.in-Some.next.now c.join_item.result c.join_item.ensures.joins c.join_item.ensures.other c.join_item.ensures.err
