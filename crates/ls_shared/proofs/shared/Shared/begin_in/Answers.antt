use Rattle.std.proofs.Common.{ap, ◌∙◌, sym, subst}
use mathlib.Core.List.{IsPrefix}
use Rattle.ls_chron.proofs.Beginnings.{prefix_trans}
use Rattle.ls_live_session.specs.Adding.{AddingSeen}
use Rattle.ls_register.specs.Sessions.{free_in, is_spent}
use Rattle.ls_shared.proofs.Adds.{refuses_add, has_room}
use Rattle.ls_shared.proofs.shared.Shared.begin_in.Goals as goal

pub returns-in-Err-clause-refused : goal.returns-in-Err-clause-refused
returns-in-Err-clause-refused g c = λ code is.
    let shown = c.show_register.ensures.sight in
    let whole = c.show_register.ensures.book ∙ sym (ap (λ t. t.register) shown) in
    refuses_add g.N.House.deed.config c.args.live c.args.sight.now c.show_register.new.self c.args.add.now code c.free_slots.result c.is_spent.result
    c.requires.shows (ap (λ t. t.lines) shown) (ap (λ t. t.watches) shown) (c.free_slots.ensures ∙ ap free_in whole)
    (c.is_spent.ensures ∙ ap is_spent whole) (c.in-Err.ensures.refused code is)

pub returns-in-Ok-clause-begins : goal.returns-in-Ok-clause-begins
returns-in-Ok-clause-begins g c =
    prefix_trans c.args.sight.now.register c.show_register.new.self.register c.claim.new.sight.register
    (subst (IsPrefix c.args.sight.now.register) (sym (ap (λ t. t.register) c.show_register.ensures.sight)) c.show_register.ensures.begins)
    c.claim.ensures.begins

pub returns-in-Ok-clause-room : goal.returns-in-Ok-clause-room
returns-in-Ok-clause-room g c =
    has_room g.N.House.deed.config c.args.add.now c.args.live.lines c.in-Ok.adding.free c.slots.result c.is_spent.result c.in-Ok.adding
    c.args.sight.now.register c.show_register.new.book c.claim.new.sight.register
    (subst (IsPrefix c.args.sight.now.register) (sym c.show_register.ensures.book) c.show_register.ensures.begins)
    (ap (λ (d : AddingSeen). d.free) c.in-Ok.ensures.begun ∙ c.free_slots.ensures)
    c.is_spent.ensures c.in-Ok.ensures.accepted.1 c.in-Ok.ensures.accepted.2 c.slots.ensures
    (ap (λ (d : AddingSeen). d.items) c.in-Ok.ensures.begun) c.claim.ensures.claimed
