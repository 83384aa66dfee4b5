use Rattle.std.proofs.Common.{◌-◌, Bool, List, slice_get, slice_set, refl, sym, ◌∙◌, ap, subst}
use Rattle.ls_event.specs.Cuts.{cut, is_pending}
use Rattle.ls_seated.specs.Seats.{SeatSeen}
use Rattle.ls_taking.proofs.Reading.{read_is}
use Rattle.ls_taking.specs.Groups.{SubSeen}
use Rattle.ls_taking.specs.Taking.{seat_set}
use Rattle.ls_taking.proofs.Moving.{SeatMoves}
use Rattle.ls_parts.specs.Replying.{Replies}
use Rattle.ls_parts.proofs.Asked.{said_by, due_of, moves_of, replies_rest}
use Rattle.ls_parts.proofs.parts.SessionParts.take_nothing.Goals as goal

pub rest-requires-clause-seat : goal.rest-requires-clause-seat
rest-requires-clause-seat g c =
    let at = c.requires.ready.seat in
    let group = read_is c.args.self.now.subs.items c.args.found.seats c.index_mut.result.now at.group c.index_mut.ensures.value at.there in (
      at.seat,
      ap (λ (x : SubSeen). slice_get x.seats (c.args.ask.slot.place - 1)) group ∙ at.ranked,
      c.requires.ready.ready,
    )

pub returns-clause-replies : goal.returns-clause-replies
returns-clause-replies g c r q asked whole =
    let config = g.N.House.deed.config in
    let s = c.args.self.now in
    let es = s.history.list in
    let ws = s.watches.items in
    let subs = s.subs.items in
    let i = c.args.item.now in
    let h = i.item.history in
    let ask = c.args.ask in
    let now = c.args.now in
    let at = c.requires.ready.seat in
    let said = c.in-Ok.ensures.nothing r q.live q.due asked.lives.stands asked.asks asked.ask_is refl in
    let group = read_is subs c.args.found.seats c.index_mut.result.now at.group c.index_mut.ensures.value at.there in
    let seat = ap (λ (x : SubSeen). slice_get x.seats (ask.slot.place - 1)) group ∙ at.ranked in
    let rests = c.rest.ensures at.seat seat in
    let u : SeatSeen = record at.seat { quiet = rests.0 } in
    let slot = said_by config s.number es ws subs s.session r q ask now i asked whole c.args.found.seats at in
    let m = moves_of config s.number es ws subs s.session r q ask now i asked whole c.args.found.seats at u in
    let moved = rests.1 ∙ ap (λ (x : SubSeen). seat_set x ask.slot.place u) group in
    let new = ap (slice_set subs c.args.found.seats) moved in
    let due = due_of config s.number es ws subs s.session r q ask now i asked whole ∙ c.requires.due in
    let none = ap (cut h) slot ∙ c.requires.none at.seat at.group at.there at.ranked in
    subst (λ (b : Bool). Replies config s.number es es ws (slice_set subs c.args.found.seats c.rest.new.self) c.answer.new.self r q h b)
    (sym said.0)
    (replies_rest config s.number es ws subs s.session r q ask now i asked whole c.answer.new.self at.seat
    (slice_set subs c.args.found.seats c.rest.new.self) rests.0
    (subst (λ (x : List SubSeen). SeatMoves subs x q.live.sub q.live.rank at.seat u) (sym new) m) due none
    (λ is. ap (is_pending h) slot ∙ rests.2 is) said.1)
