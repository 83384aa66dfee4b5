use Rattle.std.proofs.Common.{ℕ, ◌<◌, ◌^◌, ◌-◌, ◌++◌, ◌∷◌, [], length, Bool, false, List, Some, None, is_some, slice_get, slice_set, refl, sym, ◌∙◌}
use Rattle.std.proofs.Common.{ap, subst}
use Rattle.ls_event.specs.Cuts.{cut}
use Rattle.ls_record.specs.Came.{came_by}
use Rattle.ls_register.specs.declared.told.Numbered.{Numbered as NumberedLine}
use Rattle.ls_seated.specs.Seats.{SeatSeen}
use Rattle.ls_session.specs.Record.{answered}
use Rattle.ls_session.specs.Session.{StandsSession}
use Rattle.ls_subs.specs.Standing.{ref_of, what_of}
use Rattle.ls_subs.proofs.Cuts.{cut_suits}
use Rattle.ls_told.specs.Telling.{TellsOf}
use Rattle.ls_turns.specs.declared.slot_ref.SlotRef.{SlotRef}
use Rattle.ls_taking.proofs.Reading.{read_is}
use Rattle.ls_taking.specs.Groups.{SubSeen}
use Rattle.ls_taking.specs.Taking.{seat_set}
use Rattle.ls_taking.proofs.Moving.{SeatMoves}
use Rattle.ls_parts.specs.Replying.{Replies, seat_after}
use Rattle.ls_parts.proofs.Asked.{said_by, due_of, moves_of, light_cut, came_at, slot_is, line_of, replies_silent, replies_line, told_last, none_of}
use Rattle.ls_parts.proofs.Asked.{some_of}
use Rattle.ls_parts.proofs.parts.SessionParts.take_cut.Goals as goal

pub pass-requires-clause-seat : goal.pass-requires-clause-seat
pass-requires-clause-seat g c =
    let at = c.requires.ready.seat in
    let group = read_is c.args.self.now.subs.items c.args.found.seats c.index_mut.result.now at.group c.index_mut.ensures.value at.there in (
      at.seat,
      ap (λ (x : SubSeen). slice_get x.seats (c.args.ask.slot.place - 1)) group ∙ at.ranked,
      c.requires.ready.ready,
      ap is_some (c.requires.cut at.seat at.group at.there at.ranked),
    )

pub tell_cut-requires-clause-last : goal.tell_cut-requires-clause-last
tell_cut-requires-clause-last g c =
    let config = g.N.House.deed.config in
    let s = c.args.self.now in
    let es = s.history.list in
    let ws = s.watches.items in
    let subs = s.subs.items in
    let i = c.args.item.now in
    let h = i.item.history in
    let ask = c.args.ask in
    let now = c.args.now in
    let at = c.requires.ready.seat in
    let r = c.requires.asked.0 in
    let q = c.requires.asked.1 in
    let asked = c.requires.asked.2 in
    let whole = c.requires.asked.3 in
    let u : SeatSeen = seat_after at.seat (length h) c.args.taken in
    let m = moves_of config s.number es ws subs s.session r q ask now i asked whole c.args.found.seats at u in
    let due = due_of config s.number es ws subs s.session r q ask now i asked whole ∙ c.requires.due in
    let cuts = ap (cut h) (said_by config s.number es ws subs s.session r q ask now i asked whole c.args.found.seats at)
    ∙ c.requires.cut at.seat at.group at.there at.ranked in
    let light = light_cut config s.number es ws subs s.session r q ask now i asked whole at.seat u _ c.args.taken m cuts in
    let said = c.in-Ok.ensures.taken r q.live c.args.taken asked.lives.stands
    (asked.asks ∙ (λ j. Some (record { live = q.live; due = due j }))) (asked.ask_is ∙ (λ j. record { slot = ref_of q.live; due = due j })) refl
    (cut_suits h q.live.slot c.args.taken cuts) light in
    let what = some_of (what_of r.session.board.lines q.live c.args.taken) (sym said.0 ∙ c.if-told.true) in
    let slot = slot_is config s.number es ws subs s.session r q ask now i asked whole in (
      line_of config s.number es ws subs s.session r q ask now i asked whole c.args.taken what.0,
      told_last config s.number es ws subs s.session r q ask now i asked whole c.answer.new.self at.seat _ c.args.taken what.0 m c.requires.room
          c.requires.alive (subst (λ (x : SlotRef). x.sub < 2 ^ 32) slot c.are_small.ensures.0)
          (subst (λ (x : SlotRef). x.place < 2 ^ 32) slot c.are_small.ensures.1) cuts what.1 said.1,
    )

pub returns-then-told-clause-replies : goal.returns-then-told-clause-replies
returns-then-told-clause-replies g c r q asked whole =
    let config = g.N.House.deed.config in
    let s = c.args.self.now in
    let es = s.history.list in
    let ws = s.watches.items in
    let subs = s.subs.items in
    let i = c.args.item.now in
    let h = i.item.history in
    let ask = c.args.ask in
    let now = c.args.now in
    let at = c.requires.ready.seat in
    let u : SeatSeen = seat_after at.seat (length h) c.args.taken in
    let m = moves_of config s.number es ws subs s.session r q ask now i asked whole c.args.found.seats at u in
    let due = due_of config s.number es ws subs s.session r q ask now i asked whole ∙ c.requires.due in
    let cuts = ap (cut h) (said_by config s.number es ws subs s.session r q ask now i asked whole c.args.found.seats at)
    ∙ c.requires.cut at.seat at.group at.there at.ranked in
    let light = light_cut config s.number es ws subs s.session r q ask now i asked whole at.seat u _ c.args.taken m cuts in
    let said = c.in-Ok.ensures.taken r q.live c.args.taken asked.lives.stands
    (asked.asks ∙ (λ j. Some (record { live = q.live; due = due j }))) (asked.ask_is ∙ (λ j. record { slot = ref_of q.live; due = due j })) refl
    (cut_suits h q.live.slot c.args.taken cuts) light in
    let what = some_of (what_of r.session.board.lines q.live c.args.taken) (sym said.0 ∙ c.if-told.true) in
    let slot = slot_is config s.number es ws subs s.session r q ask now i asked whole in
    let text = line_of config s.number es ws subs s.session r q ask now i asked whole c.args.taken what.0 in
    let last = told_last config s.number es ws subs s.session r q ask now i asked whole c.answer.new.self at.seat _ c.args.taken what.0 m c.requires.room
    c.requires.alive (subst (λ (x : SlotRef). x.sub < 2 ^ 32) slot c.are_small.ensures.0)
    (subst (λ (x : SlotRef). x.place < 2 ^ 32) slot c.are_small.ensures.1) cuts what.1 said.1 in
    let made = c.cut_of-told_of.result in
    let line : NumberedLine = record {
      text = text;
      slot = made.slot;
      before = made.before;
      upto = made.upto;
      at = made.at;
      begun = None;
      tick = c.tick-tick.result;
    } in
    let first = read_is subs c.args.found.seats c.index.result.now at.group c.index.ensures at.there in
    let numbers = c.cut_of-told_of.ensures.numbers at.seat (ap (λ (x : SubSeen). slice_get x.seats (ask.slot.place - 1)) first ∙ at.ranked) in
    let came = came_at config s.number es ws subs s.session r q ask now i asked whole at.seat u _ c.args.taken what.0 m in
    let of : TellsOf line q.live.sub q.live.rank r.tick (came_by q.live.slot c.args.taken what.0) = record {
      slot = ask.slot;
      is = c.cut_of-told_of.ensures.slot;
      sub_is = ap (λ (x : SlotRef). x.sub) slot;
      rank_is = ap (λ (x : SlotRef). x.place) slot;
      tick_is = c.tick-tick.ensures.tick ∙ sym asked.tick;
      before = numbers.0 ∙ came.0;
      upto = numbers.1 ∙ came.1;
      at = numbers.2 ∙ came.2;
      begun = refl;
    } in
    let group = read_is subs c.args.found.seats c.index_mut.result.now at.group c.index_mut.ensures.value at.there in
    let seat = ap (λ (x : SubSeen). slice_get x.seats (ask.slot.place - 1)) group ∙ at.ranked in
    let from = read_is subs c.args.found.seats c.index-2.result.now at.group c.index-2.ensures at.there in
    let kept = c.cursor_after-cursor.ensures at.seat (ap (λ (x : SubSeen). slice_get x.seats (ask.slot.place - 1)) from ∙ at.ranked) in
    let moved = c.pass.ensures.moves at.seat seat
    ∙ ap (λ (n : ℕ). seat_set c.index_mut.result.now ask.slot.place (record at.seat { list = at.seat.list ++ length h ∷ []; quiet = false; cursor = n }))
    kept
    ∙ ap (λ (x : SubSeen). seat_set x ask.slot.place u) group in
    let new = ap (λ x. x.subs.items) c.tell_cut.ensures.rest ∙ ap (slice_set subs c.args.found.seats) moved in
    let kept = ap (λ x. x.session) c.tell_cut.ensures.rest in
    subst (λ (b : Bool). Replies config s.number es c.tell_cut.new.self.history.list ws c.tell_cut.new.self.subs.items c.tell_cut.new.self.session r q h b)
    (sym c.if-told.true)
    (replies_line config s.number es ws subs s.session r q ask now i asked whole c.tell_cut.new.self.session at.seat c.tell_cut.new.self.subs.items
    c.args.taken what.0 line c.tell_cut.new.self.history.list
    (subst (λ (x : List SubSeen). SeatMoves subs x q.live.sub q.live.rank at.seat u) (sym new) m) c.requires.room due cuts what.1
    (subst (λ x. StandsSession x (answered r q.live c.args.taken)) (sym kept) said.1) refl of (c.tell_cut.ensures.told text last))

pub returns-else-told-clause-replies : goal.returns-else-told-clause-replies
returns-else-told-clause-replies g c r q asked whole =
    let config = g.N.House.deed.config in
    let s = c.args.self.now in
    let es = s.history.list in
    let ws = s.watches.items in
    let subs = s.subs.items in
    let i = c.args.item.now in
    let h = i.item.history in
    let ask = c.args.ask in
    let now = c.args.now in
    let at = c.requires.ready.seat in
    let u : SeatSeen = seat_after at.seat (length h) c.args.taken in
    let m = moves_of config s.number es ws subs s.session r q ask now i asked whole c.args.found.seats at u in
    let due = due_of config s.number es ws subs s.session r q ask now i asked whole ∙ c.requires.due in
    let cuts = ap (cut h) (said_by config s.number es ws subs s.session r q ask now i asked whole c.args.found.seats at)
    ∙ c.requires.cut at.seat at.group at.there at.ranked in
    let light = light_cut config s.number es ws subs s.session r q ask now i asked whole at.seat u _ c.args.taken m cuts in
    let said = c.in-Ok.ensures.taken r q.live c.args.taken asked.lives.stands
    (asked.asks ∙ (λ j. Some (record { live = q.live; due = due j }))) (asked.ask_is ∙ (λ j. record { slot = ref_of q.live; due = due j })) refl
    (cut_suits h q.live.slot c.args.taken cuts) light in
    let silent = none_of (what_of r.session.board.lines q.live c.args.taken) (sym said.0 ∙ c.if-told.false) in
    let group = read_is subs c.args.found.seats c.index_mut.result.now at.group c.index_mut.ensures.value at.there in
    let seat = ap (λ (x : SubSeen). slice_get x.seats (ask.slot.place - 1)) group ∙ at.ranked in
    let from = read_is subs c.args.found.seats c.index-2.result.now at.group c.index-2.ensures at.there in
    let kept = c.cursor_after-cursor.ensures at.seat (ap (λ (x : SubSeen). slice_get x.seats (ask.slot.place - 1)) from ∙ at.ranked) in
    let moved = c.pass.ensures.moves at.seat seat
    ∙ ap (λ (n : ℕ). seat_set c.index_mut.result.now ask.slot.place (record at.seat { list = at.seat.list ++ length h ∷ []; quiet = false; cursor = n }))
    kept
    ∙ ap (λ (x : SubSeen). seat_set x ask.slot.place u) group in
    let new = ap (slice_set subs c.args.found.seats) moved in
    subst (λ (b : Bool). Replies config s.number es es ws (slice_set subs c.args.found.seats c.pass.new.self) c.answer.new.self r q h b)
    (sym c.if-told.false)
    (replies_silent config s.number es ws subs s.session r q ask now i asked whole c.answer.new.self at.seat
    (slice_set subs c.args.found.seats c.pass.new.self) c.args.taken
    (subst (λ (x : List SubSeen). SeatMoves subs x q.live.sub q.live.rank at.seat u) (sym new) m) due cuts silent said.1)
