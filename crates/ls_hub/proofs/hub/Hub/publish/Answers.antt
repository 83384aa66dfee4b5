use Rattle.std.proofs.Common.{refl, sym, ◌∙◌, ◌++◌, ap, arith}
use Rattle.ls_record.specs.Records.{all_live}
use Rattle.ls_world.specs.Script.{text_of_outs}
use Rattle.ls_hub.specs.Hub.{outs_published}
use Rattle.ls_hub.proofs.Hubs.{on_failed}
use Rattle.ls_hub.proofs.Publishing.{publishes_did, publishes_nothing, publish_failed}
use Rattle.ls_hub.proofs.hub.Hub.publish.Goals as goal

pub returns-then-not-takes-clause-ok : goal.returns-then-not-takes-clause-ok
returns-then-not-takes-clause-ok c = λ w st.
    publishes_nothing c.args.self.now w c.args.item (record { adapter = c.args.adapter; seq = c.args.seq; event = c.args.event }) _
    (sym (c.takes.ensures.known w.items (all_live w.sessions) st.cells) ∙ c.if-not-takes.true) st

pub returns-clause-ok : goal.returns-clause-ok
returns-clause-ok c = λ w st.
    publishes_did c.args.self.now _ w c.args.item (record { adapter = c.args.adapter; seq = c.args.seq; event = c.args.event }) c.publish-answer.result _ _
    (record { config = refl; tick = refl; connections = refl; living = refl; sessions = refl }) st
    (record {
      some = c.in_ok-append_published.ensures.some;
      first = c.publish-answer.ensures.answer;
      stands = c.publish-answer.ensures.ok;
      same = c.publish-answer.ensures.err;
    })
    (sym (c.takes.ensures.known w.items (all_live w.sessions) st.cells) ∙ c.if-not-takes.false)
    (c.in_ok-append_published.ensures.text ∙ ap (λ xs. xs ++ text_of_outs (outs_published c.publish-answer.result)) c.reserve.ensures.items)

pub returns-in_err-append_published-clause-err : goal.returns-in_err-append_published-clause-err
returns-in_err-append_published-clause-err c = on_failed c.from_residual-in_err-append_published.result (λ w st.
    publish_failed c.args.self.now _ w c.publish-answer.result
    (record { config = refl; tick = refl; connections = refl; living = refl; sessions = refl }) st c.publish-answer.ensures.err
    (λ some. omega (arith, c.in_err-append_published.ensures.room some, c.in_ok-reserve.ensures.ok)))
