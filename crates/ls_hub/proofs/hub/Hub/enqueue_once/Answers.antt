use Rattle.std.proofs.Common.{◌++◌, refl, ◌∙◌, ap, arith}
use Rattle.ls_step.specs.declared.out.Out.TheVariants as out
use Rattle.ls_step.specs.Notes.{text_of_out, room_for}
use Rattle.ls_record.specs.Records.{all_live}
use Rattle.ls_hub.proofs.Hubs.{on_failed}
use Rattle.ls_hub.proofs.Publishing.{no_slot, named_in, enqueue_did, room_enqueued, with_cells}
use Rattle.ls_hub.proofs.hub.Hub.enqueue_once.Goals as goal

pub returns-in_default-clause-ok : goal.returns-in_default-clause-ok
returns-in_default-clause-ok c = λ w st.
    no_slot c.args.self.now w c.args.connection c.args.sub c.args.rank _ _ _ st (c.slot_of.ensures w st) c.in_default.is
    (c.in_ok-append_out.ensures.text ∙ ap (λ xs. xs ++ text_of_out out.NoSlot) c.reserve.ensures.items)

pub returns-clause-ok : goal.returns-clause-ok
returns-clause-ok c = λ w st.
    rw c.has_moved.ensures
    (enqueue_did c.args.self.now _ w c.args.connection c.args.sub c.args.rank c.in-Some.slot c.in_ok-answer.answer _ _ st
    (record { config = refl; tick = refl; connections = refl; living = refl; sessions = refl })
    (named_in w c.args.connection c.args.sub c.args.rank _ c.in-Some.slot (c.slot_of.ensures w st) c.in-Some.is) c.in_ok-answer.ensures.ok
    (c.in_ok-append_out-2.ensures.text ∙ ap (λ xs. xs ++ text_of_out c.out_enqueued.result) c.reserve.ensures.items
    ∙ ap (λ o. c.args.text.now.items ++ text_of_out o) c.out_enqueued.ensures))

pub returns-in_err-append_out-clause-err : goal.returns-in_err-append_out-clause-err
returns-in_err-append_out-clause-err c = on_failed c.from_residual-in_err-append_out.result (λ w st. st)

pub returns-in_err-answer-clause-err : goal.returns-in_err-answer-clause-err
returns-in_err-answer-clause-err c = on_failed c.from_residual-in_err-answer.result (λ w st.
    with_cells c.args.self.now _ w (record { config = refl; tick = refl; connections = refl; living = refl; sessions = refl }) st
    (c.in_err-answer.ensures.err w.items (all_live w.sessions) st.cells))

pub returns-in_err-append_out-2-clause-err : goal.returns-in_err-append_out-2-clause-err
returns-in_err-append_out-2-clause-err c = on_failed c.from_residual-in_err-append_out-2.result (λ w st.
    absurd (omega (
      arith,
      c.in_err-append_out-2.ensures.room,
      c.in_ok-reserve.ensures.ok,
      ap room_for c.out_enqueued.ensures ∙ room_enqueued c.in_ok-answer.answer,
    )))
