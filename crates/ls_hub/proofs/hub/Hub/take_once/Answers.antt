use Rattle.std.proofs.Common.{◌<◌, ◌++◌, length, refl, sym, ◌∙◌, ap, arith}
use Rattle.std.proofs.lemmas.List.{get_or-set_same}
use Rattle.ls_step.specs.Notes.{text_of_out}
use Rattle.ls_session.specs.Session.{current_of}
use Rattle.ls_hub.specs.Turning.{out_of_turn}
use Rattle.ls_hub.proofs.Connected.{epoch_is}
use Rattle.ls_hub.proofs.Hubs.{no_session, turn_there, kept_there, take_did, on_failed, nothing_failed, text_failed, turn_failed}
use Rattle.ls_hub.proofs.hub.Hub.take_once.Goals as goal

pub returns-in_default-clause-ok : goal.returns-in_default-clause-ok
returns-in_default-clause-ok c = λ w st.
    no_session c.args.self.now w c.args.connection _ _ st (sym c.in_default.is ∙ c.session_place.ensures.place w st) c.in_ok-append_out.ensures.text

pub returns-clause-ok : goal.returns-clause-ok
returns-clause-ok c = λ w st.
    let low : c.in-Some.place < length c.args.self.now.sessions.items = c.in-Some.ensures.within in
    rw c.gave_line.ensures
    (take_did c.args.self.now _ w c.args.connection c.epoch_of-epoch.result c.in-Some.place c.turn_of.new.session c.name_of-2.result.now c.in_ok-turn.turn _ _
    st (sym c.in-Some.is ∙ c.session_place.ensures.place w st)
    (c.epoch_of-epoch.ensures ∙ epoch_is c.args.self.now.connections.items w c.args.connection st.connections)
    (record { config = refl; tick = refl; connections = refl; living = refl; sessions = refl }) c.name_of-2.ensures
    (turn_there c.args.self.now w c.epoch_of-epoch.result c.in-Some.place c.index_mut.result.now c.turn_of.new.session c.in_ok-turn.turn _ st low
    c.index_mut.ensures.value (c.in_ok-turn.ensures.ok))
    (c.in_ok-append_turn.ensures.text
    ∙ ap (λ xs. xs ++ text_of_out (out_of_turn c.name_of-2.result.now c.current.result.now c.in_ok-turn.turn)) c.reserve.ensures.items
    ∙ ap (λ x. c.args.text.now.items ++ text_of_out (out_of_turn c.name_of-2.result.now x c.in_ok-turn.turn)) (c.current.ensures.line
    ∙ ap current_of (c.index.ensures ∙ get_or-set_same c.args.self.now.sessions.items c.in-Some.place c.turn_of.new.session _ low))))

pub returns-in_err-append_out-clause-err : goal.returns-in_err-append_out-clause-err
returns-in_err-append_out-clause-err c = on_failed c.from_residual.result (λ w st. nothing_failed c.args.self.now w st)

pub returns-in_err-reserve-clause-err : goal.returns-in_err-reserve-clause-err
returns-in_err-reserve-clause-err c = on_failed c.from_residual-in_err-reserve.result (λ w st. nothing_failed c.args.self.now w st)

pub returns-in_err-turn-clause-err : goal.returns-in_err-turn-clause-err
returns-in_err-turn-clause-err c = on_failed c.from_residual-in_err-turn.result (λ w st.
    turn_failed c.args.self.now _ w c.in-Some.place c.index_mut.result.now c.turn_of.new.session st c.in-Some.ensures.within c.index_mut.ensures.value
    (record { config = refl; tick = refl; connections = refl; living = refl; sessions = refl }) c.in_err-turn.ensures.err)

pub returns-in_err-append_turn-clause-err : goal.returns-in_err-append_turn-clause-err
returns-in_err-append_turn-clause-err c = on_failed c.from_residual-in_err-append_turn.result (λ w st.
    let low : c.in-Some.place < length c.args.self.now.sessions.items = c.in-Some.ensures.within in
    let x = turn_there c.args.self.now w c.epoch_of-epoch.result c.in-Some.place c.index_mut.result.now c.turn_of.new.session c.in_ok-turn.turn _ st low
    c.index_mut.ensures.value c.in_ok-turn.ensures.ok in
    let short = c.current.ensures.short _ (kept_there w c.epoch_of-epoch.result c.in-Some.place c.in_ok-turn.turn c.turn_of.new.session _ x c.index.result.now
    (c.index.ensures ∙ get_or-set_same c.args.self.now.sessions.items c.in-Some.place c.turn_of.new.session _ low)) in
    text_failed c.args.self.now _ w c.epoch_of-epoch.result c.in-Some.place c.turn_of.new.session c.in_ok-turn.turn st
    (record { config = refl; tick = refl; connections = refl; living = refl; sessions = refl }) x
    (λ sent. absurd (omega (
      arith,
      c.in_err-append_turn.ensures.room sent,
      c.in_ok-reserve.ensures.ok,
      short,
      ap length (c.name_of.ensures ∙ sym c.name_of-2.ensures),
    ))))
