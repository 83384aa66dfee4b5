use Rattle.std.proofs.Common.{refl}
use Rattle.std.proofs.lemmas.Result.{on_ok_weaker, on_err_weaker}
use Rattle.ls_hub.proofs.Repeats.{take_failed, enqueue_failed}
use Rattle.ls_hub.proofs.Ticked.{ticked}
use Rattle.ls_hub.proofs.hub.Hub.step.Goals as goal

pub returns-in-Tick-clause-ok : goal.returns-in-Tick-clause-ok
returns-in-Tick-clause-ok c = λ w st line fits.
    ticked c.args.self.now c.tick_to.new.self w c.args.step c.in-Tick.ms c.args.times c.args.text.now.items st c.in-Tick.is fits c.tick_to.ensures

pub returns-in-Open-clause-ok : goal.returns-in-Open-clause-ok
returns-in-Open-clause-ok c = on_ok_weaker c.connect_and_open.result (λ did w st line fits. rw c.in-Open.is (did w st)) c.connect_and_open.ensures.ok

pub returns-in-Open-clause-err : goal.returns-in-Open-clause-err
returns-in-Open-clause-err c = on_err_weaker c.connect_and_open.result (λ kept w st. rw c.in-Open.is (w, refl, kept w st)) c.connect_and_open.ensures.err

pub returns-in-Add-clause-ok : goal.returns-in-Add-clause-ok
returns-in-Add-clause-ok c = on_ok_weaker c.add.result (λ did w st line fits. rw c.in-Add.is (did w st line)) c.add.ensures.ok

pub returns-in-Add-clause-err : goal.returns-in-Add-clause-err
returns-in-Add-clause-err c = on_err_weaker c.add.result (λ kept w st. rw c.in-Add.is (w, refl, kept w st)) c.add.ensures.err

pub returns-in-Request-clause-ok : goal.returns-in-Request-clause-ok
returns-in-Request-clause-ok c = on_ok_weaker c.request_form.result (λ did w st line fits. rw c.in-Request.is (did w st)) c.request_form.ensures.ok

pub returns-in-Request-clause-err : goal.returns-in-Request-clause-err
returns-in-Request-clause-err c = on_err_weaker c.request_form.result (λ kept w st. rw c.in-Request.is (w, refl, kept w st)) c.request_form.ensures.err

pub returns-in-Publish-clause-ok : goal.returns-in-Publish-clause-ok
returns-in-Publish-clause-ok c = on_ok_weaker c.publish.result (λ did w st line fits. rw c.in-Publish.is (did w st)) c.publish.ensures.ok

pub returns-in-Publish-clause-err : goal.returns-in-Publish-clause-err
returns-in-Publish-clause-err c = on_err_weaker c.publish.result (λ kept w st. rw c.in-Publish.is (w, refl, kept w st)) c.publish.ensures.err

pub returns-in-Clear-clause-ok : goal.returns-in-Clear-clause-ok
returns-in-Clear-clause-ok c = on_ok_weaker c.publish-in-Clear.result (λ did w st line fits. rw c.in-Clear.is (did w st)) c.publish-in-Clear.ensures.ok

pub returns-in-Clear-clause-err : goal.returns-in-Clear-clause-err
returns-in-Clear-clause-err c = on_err_weaker c.publish-in-Clear.result (λ kept w st. rw c.in-Clear.is (w, refl, kept w st)) c.publish-in-Clear.ensures.err

pub returns-in-Enqueue-clause-ok : goal.returns-in-Enqueue-clause-ok
returns-in-Enqueue-clause-ok c = on_ok_weaker c.enqueue.result (λ did w st line fits. rw c.in-Enqueue.is (did w st)) c.enqueue.ensures.ok

pub returns-in-Enqueue-clause-err : goal.returns-in-Enqueue-clause-err
returns-in-Enqueue-clause-err c = on_err_weaker c.enqueue.result (λ kept w st. rw c.in-Enqueue.is (enqueue_failed w c.in-Enqueue.connection c.in-Enqueue.sub c.in-Enqueue.rank c.args.times c.enqueue.new.self (kept w st))) c.enqueue.ensures.err

pub returns-in-Take-clause-ok : goal.returns-in-Take-clause-ok
returns-in-Take-clause-ok c = on_ok_weaker c.take.result (λ did w st line fits. rw c.in-Take.is (did w st)) c.take.ensures.ok

pub returns-in-Take-clause-err : goal.returns-in-Take-clause-err
returns-in-Take-clause-err c = on_err_weaker c.take.result (λ kept w st. rw c.in-Take.is (take_failed w c.in-Take.connection c.args.times c.take.new.self (kept w st))) c.take.ensures.err

pub returns-in-Lose-clause-ok : goal.returns-in-Lose-clause-ok
returns-in-Lose-clause-ok c = on_ok_weaker c.lose.result (λ did w st line fits. rw c.in-Lose.is (did w st)) c.lose.ensures.ok

pub returns-in-Lose-clause-err : goal.returns-in-Lose-clause-err
returns-in-Lose-clause-err c = on_err_weaker c.lose.result (λ kept w st. rw c.in-Lose.is (w, refl, kept w st)) c.lose.ensures.err
