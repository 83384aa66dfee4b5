use Rattle.std.proofs.Common.{◌-◌, slice_get, refl, sym, ◌∙◌, ap}
use Rattle.ls_taking.proofs.Reading.{read_is}
use Rattle.ls_taking.specs.Groups.{SubSeen}
use Rattle.ls_taking.specs.Taking.{SeatAt}
use Rattle.ls_parts.proofs.Asked.{seat_asked}
use Rattle.ls_parts.proofs.Living.{lives_passed_over}
use Rattle.ls_parts.proofs.parts.SessionParts.rest_quiet.Goals as goal

pub returns-in-Ok-clause-rests : goal.returns-in-Ok-clause-rests
returns-in-Ok-clause-rests g c is r q now asked =
    let config = g.N.House.deed.config in
    let s = c.args.self.now in
    let es = s.history.list in
    let ws = s.watches.items in
    let subs = s.subs.items in
    let ask = c.args.ask in
    let seats = c.in-Some.seats in
    let found = c.in-Some.ensures.found in
    let quiet = c.is_quiet.ensures c.if-is_quiet.true in
    let group = read_is subs seats c.index.result.now found.0 c.index.ensures found.1 in
    let at : SeatAt subs seats ask.slot =
    record {
      group = found.0;
      seat = quiet.1.0;
      there = found.1;
      named = found.2;
      only = found.3;
      some = quiet.0;
      ranked = ap (λ (x : SubSeen). slice_get x.seats (ask.slot.place - 1)) (sym group) ∙ quiet.1.1;
    } in
    let own = seat_asked config s.number es ws subs s.session r q ask now asked seats at in
    let said = c.in-Ok.ensures.nothing r q.live q.due asked.lives.stands asked.asks asked.ask_is refl in (
      lives_passed_over config s.number es ws subs s.session r c.answer.new.self asked.lives said.1,
      own.quiet quiet.1.2,
      sym own.last ∙ quiet.1.3,
    )
