use Rattle.std.proofs.Common.{sym, ◌∙◌, ap, arith, length, get_or}
use Rattle.ls_hub.proofs.Publishing.{slot_unlinked, slot_past, slot_there}
use Rattle.ls_hub.proofs.hub.Hub.slot_of.Goals as goal

pub returns-in_default : goal.returns-in_default
returns-in_default c = λ w st. slot_unlinked c.args.self.now w c.args.connection c.args.sub c.args.rank st (sym c.session_of.ensures ∙ c.in_default.is)

pub returns-in-None : goal.returns-in-None
returns-in-None c = λ w st.
    slot_past c.args.self.now w c.args.connection c.in-Some.place c.args.sub c.args.rank st (sym c.session_of.ensures ∙ c.in-Some.is)
    (omega (arith, ap length c.deref.ensures.value, c.in-None.ensures.lookup.3))

pub returns-in-Some-get : goal.returns-in-Some-get
returns-in-Some-get c = λ w st.
    let found = c.in-Some-get.ensures.lookup in
    slot_there c.args.self.now w c.args.connection c.in-Some.place c.args.sub c.args.rank c.in-Some-get.session.now c.find.result st
    (sym c.session_of.ensures ∙ c.in-Some.is) (omega (arith, ap length c.deref.ensures.value, found.3.0))
    (found.1 ∙ ap (λ ks. get_or ks c.in-Some.place c.in-Some-get.session.now) c.deref.ensures.value) c.find.ensures
