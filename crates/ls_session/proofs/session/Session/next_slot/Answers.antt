use Rattle.std.proofs.Common.{◌∙◌}
use Rattle.ls_session.proofs.Seats.{slot_named}
use Rattle.ls_session.proofs.session.Session.next_slot.Goals as goal

pub returns : goal.returns
returns c = λ r st.
    c.slot.ensures.at r.asked st.round.next ∙ slot_named c.args.self.now.asking.turns r.session.board.round r.asked st.round.slots
