use Rattle.std.proofs.Common.{◌-◌, List, slice_get, sym, ◌∙◌, ap, subst}
use Rattle.ls_cell.proofs.Arrivals.{ok_with}
use Rattle.ls_register.specs.declared.told.Told.{Told}
use Rattle.ls_session.specs.Record.{Record, Question}
use Rattle.ls_taking.proofs.Reading.{read_is}
use Rattle.ls_taking.specs.Groups.{SubSeen}
use Rattle.ls_taking.specs.Taking.{IsAskedFrom, IsWhole}
use Rattle.ls_parts.specs.Replying.{Replies}
use Rattle.ls_parts.proofs.parts.SessionParts.take_due.Goals as goal

pub take_cut-requires-clause-cut : goal.take_cut-requires-clause-cut
take_cut-requires-clause-cut g c t group there ranked =
    let subs = c.args.self.now.subs.items in
    let is = read_is subs c.args.found.seats c.index.result.now group c.index.ensures there in
    let seat = ap (λ (x : SubSeen). slice_get x.seats (c.args.ask.slot.place - 1)) is ∙ ranked in
    sym (c.in-Ok-Some.ensures t seat) ∙ c.in-Ok-Some.field-0-is

pub take_nothing-requires-clause-none : goal.take_nothing-requires-clause-none
take_nothing-requires-clause-none g c t group there ranked =
    let subs = c.args.self.now.subs.items in
    let is = read_is subs c.args.found.seats c.index.result.now group c.index.ensures there in
    let seat = ap (λ (x : SubSeen). slice_get x.seats (c.args.ask.slot.place - 1)) is ∙ ranked in
    sym (c.in-Ok-None.ensures t seat) ∙ c.in-Ok-None.field-0-is

pub returns-in-Ok-None-clause-replies : goal.returns-in-Ok-None-clause-replies
returns-in-Ok-None-clause-replies g c =
    let config = g.N.House.deed.config in
    let s = c.args.self.now in
    let es = s.history.list in
    let ws = s.watches.items in
    let subs = s.subs.items in
    let i = c.args.item.now in
    let h = i.item.history in
    let new = c.take_nothing.new.self in
    ok_with
    (λ told. (r : Record) (q : Question) → IsAskedFrom config s.number es ws subs s.session r q c.args.ask c.args.now
    → IsWhole config ws q i → Replies config s.number es es ws new.subs.items new.session r q h told)
    (λ told. (r : Record) (q : Question) → IsAskedFrom config s.number es ws subs s.session r q c.args.ask c.args.now
    → IsWhole config ws q i → Replies config s.number es new.history.list ws new.subs.items new.session r q h told)
    c.take_nothing.result
    (λ told said r q asked whole.
    subst (λ (x : List Told). Replies config s.number es x ws new.subs.items new.session r q h told)
    (sym (ap (λ x. x.history.list) c.take_nothing.ensures.rest)) (said r q asked whole))
    c.take_nothing.ensures.replies
