use Rattle.std.proofs.Common.{◌≡◌, ◌-◌, Bool, false, List, Some, slice_get, refl, sym, ◌∙◌, ap, subst}
use Rattle.ls_cell.proofs.Arrivals.{ok_with}
use Rattle.ls_event.specs.Cuts.{cut, is_pending}
use Rattle.ls_register.specs.declared.told.Told.{Told}
use Rattle.ls_session.specs.Record.{Record, Question, question_of, passed_over, waited}
use Rattle.ls_session.specs.Session.{StandsSession, ask_in}
use Rattle.ls_session.specs.declared.session.Reply.TheVariants as reply
use Rattle.ls_taking.proofs.Reading.{read_is}
use Rattle.ls_taking.specs.Groups.{SubSeen}
use Rattle.ls_taking.specs.Taking.{IsAskedFrom, IsWhole}
use Rattle.ls_parts.specs.Replying.{Replies, reply_by}
use Rattle.ls_parts.proofs.Asked.{said_by, due_of, replies_nothing, replies_waiting}
use Rattle.ls_parts.proofs.parts.SessionParts.take_waiting.Goals as goal

pub returns-then-pending-clause-replies : goal.returns-then-pending-clause-replies
returns-then-pending-clause-replies g c =
    let config = g.N.House.deed.config in
    let s = c.args.self.now in
    let es = s.history.list in
    let ws = s.watches.items in
    let subs = s.subs.items in
    let i = c.args.item.now in
    let h = i.item.history in
    let at = c.requires.ready.seat in
    let group = read_is subs c.args.found.seats c.index.result.now at.group c.index.ensures at.there in
    let seat = ap (λ (x : SubSeen). slice_get x.seats (c.args.ask.slot.place - 1)) group ∙ at.ranked in
    ok_with
    (λ told. (r : Record) (q : Question) → StandsSession s.session r → question_of r ≡ Some q → c.args.ask ≡ ask_in q → q.due ≡ false
    → reply.Waiting ≡ reply.Waiting → (told ≡ false) × StandsSession c.rest.new.self.session (waited r q.live))
    (λ told. (r : Record) (q : Question) → IsAskedFrom config s.number es ws subs s.session r q c.args.ask c.args.now
    → IsWhole config ws q i
    → Replies config s.number es c.rest.new.self.history.list ws c.rest.new.self.subs.items c.rest.new.self.session r q h told)
    c.rest.result
    (λ told said r q asked whole.
    let due = due_of config s.number es ws subs s.session r q c.args.ask c.args.now i asked whole ∙ c.requires.due in
    let both = said r q asked.lives.stands asked.asks asked.ask_is due refl in
    let pends = ap (is_pending h) (said_by config s.number es ws subs s.session r q c.args.ask c.args.now i asked whole c.args.found.seats at)
    ∙ (sym (c.pending.ensures at.seat seat) ∙ c.if-pending.true) in
    let is : reply_by q.due (cut h q.live.slot) (is_pending h q.live.slot) ≡ reply.Waiting =
    λ j. reply_by (due j) (cut h q.live.slot) (pends j) in
    subst (λ (b : Bool). Replies config s.number es c.rest.new.self.history.list ws c.rest.new.self.subs.items c.rest.new.self.session r q h b)
    (sym both.0)
    (subst (λ (x : List Told × List SubSeen). Replies config s.number es x.0 ws x.1 c.rest.new.self.session r q h false)
    (λ j. (sym (ap (λ x. x.history.list) c.rest.ensures.rest) j, sym (ap (λ x. x.subs.items) c.rest.ensures.rest) j))
    (replies_waiting config s.number es ws subs s.session r q c.args.ask c.args.now i asked whole c.rest.new.self.session is both.1)))
    c.rest.ensures.waiting

pub returns-else-pending-clause-replies : goal.returns-else-pending-clause-replies
returns-else-pending-clause-replies g c =
    let config = g.N.House.deed.config in
    let s = c.args.self.now in
    let es = s.history.list in
    let ws = s.watches.items in
    let subs = s.subs.items in
    let i = c.args.item.now in
    let h = i.item.history in
    let at = c.requires.ready.seat in
    let group = read_is subs c.args.found.seats c.index.result.now at.group c.index.ensures at.there in
    let seat = ap (λ (x : SubSeen). slice_get x.seats (c.args.ask.slot.place - 1)) group ∙ at.ranked in
    ok_with
    (λ told. (r : Record) (q : Question) → StandsSession s.session r → question_of r ≡ Some q → c.args.ask ≡ ask_in q
    → reply.Nothing ≡ reply.Nothing → (told ≡ false) × StandsSession c.rest-else-pending.new.self.session (passed_over r))
    (λ told. (r : Record) (q : Question) → IsAskedFrom config s.number es ws subs s.session r q c.args.ask c.args.now
    → IsWhole config ws q i
    → Replies config s.number es c.rest-else-pending.new.self.history.list ws c.rest-else-pending.new.self.subs.items c.rest-else-pending.new.self.session r q h told)
    c.rest-else-pending.result
    (λ told said r q asked whole.
    let due = due_of config s.number es ws subs s.session r q c.args.ask c.args.now i asked whole ∙ c.requires.due in
    let both = said r q asked.lives.stands asked.asks asked.ask_is refl in
    let pends = ap (is_pending h) (said_by config s.number es ws subs s.session r q c.args.ask c.args.now i asked whole c.args.found.seats at)
    ∙ (sym (c.pending.ensures at.seat seat) ∙ c.if-pending.false) in
    let is : reply_by q.due (cut h q.live.slot) (is_pending h q.live.slot) ≡ reply.Nothing =
    λ j. reply_by (due j) (cut h q.live.slot) (pends j) in
    subst (λ (b : Bool). Replies config s.number es c.rest-else-pending.new.self.history.list ws c.rest-else-pending.new.self.subs.items c.rest-else-pending.new.self.session r q h b)
    (sym both.0)
    (subst (λ (x : List Told × List SubSeen). Replies config s.number es x.0 ws x.1 c.rest-else-pending.new.self.session r q h false)
    (λ j. (sym (ap (λ x. x.history.list) c.rest-else-pending.ensures.rest) j, sym (ap (λ x. x.subs.items) c.rest-else-pending.ensures.rest) j))
    (replies_nothing config s.number es ws subs s.session r q c.args.ask c.args.now i asked whole c.rest-else-pending.new.self.session is both.1)))
    c.rest-else-pending.ensures.nothing
