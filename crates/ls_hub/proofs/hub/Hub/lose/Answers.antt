use Rattle.std.proofs.Common.{◌∙◌, ◌++◌, ap, arith, refl, sym}
use Rattle.std.proofs.lemmas.Result.{on_ok_weaker, on_err_weaker}
use Rattle.ls_step.specs.Notes.{text_of_out, room_for}
use Rattle.ls_hub.proofs.Connected.{epoch_is}
use Rattle.ls_hub.proofs.Hubs.{on_failed}
use Rattle.ls_hub.proofs.Streams.{lost_none, lost_printed, room_lost}
use Rattle.ls_hub.proofs.hub.Hub.lose.Goals as goal

pub returns-in_default-clause-ok : goal.returns-in_default-clause-ok
returns-in_default-clause-ok c = on_ok_weaker c.append_out.result (λ is w st.
    lost_none c.args.self.now w c.args.connection c.args.text.now.items c.append_out.new.text.items st
    (sym c.in_default.is ∙ c.session_place.ensures.place w st) is) c.append_out.ensures.text

pub returns-in_default-clause-err : goal.returns-in_default-clause-err
returns-in_default-clause-err c = on_failed c.append_out.result (λ w st. st)

pub returns-clause-ok : goal.returns-clause-ok
returns-clause-ok c = on_ok_weaker c.append_out-2.result (λ is w st.
    lost_printed c.args.self.now _ w c.args.connection c.epoch_of-epoch.result c.in-Some.place c.index_mut.result.now c.lose-lost.new.self
    c.lose-lost.result c.args.text.now.items c.append_out-2.new.text.items st (sym c.in-Some.is ∙ c.session_place.ensures.place w st)
    (c.epoch_of-epoch.ensures ∙ epoch_is c.args.self.now.connections.items w c.args.connection st.connections) c.in-Some.ensures.within
    c.index_mut.ensures.value (record { config = refl; tick = refl; connections = refl; living = refl; sessions = refl }) refl c.lose-lost.ensures
    (is ∙ ap (λ xs. xs ++ text_of_out c.out_of_loss.result) c.reserve.ensures.items
    ∙ ap (λ o. c.args.text.now.items ++ text_of_out o) c.out_of_loss.ensures)) c.append_out-2.ensures.text

pub returns-clause-err : goal.returns-clause-err
returns-clause-err c = on_err_weaker c.append_out-2.result (λ room w st.
    absurd (omega (arith, room, c.in_ok-reserve.ensures.ok, ap room_for c.out_of_loss.ensures ∙ room_lost c.lose-lost.result))) c.append_out-2.ensures.room
