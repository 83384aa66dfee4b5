use Rattle.std.proofs.Common.{◌≡◌, List, ℕ, sym, subst, ◌∙◌}
use Rattle.ls_value.specs.Values.{text_eq}
use Rattle.ls_record.specs.Turning.{loop_text}
use Rattle.ls_conn_ws.specs.Giving.{PutsSo}
use Rattle.ls_conn_ws.proofs.Overs.{over_looped}
use Rattle.ls_conn_ws.proofs.Taking.{give_sent}
use Rattle.ls_conn_ws.proofs.running.give_line.Goals as goal

pub returns-in-Send-clause-gives : goal.returns-in-Send-clause-gives
returns-in-Send-clause-gives g c = give_sent c.put_given.result _ _ _ _ _ _ (c.in-Ok.ensures.sent c.in-Send.is)
    (subst (λ (t : List ℕ). PutsSo c.put_given.result (g.T.LineOut.log c.args.talk.now) (g.T.LineOut.log c.put_given.new.talk) t) c.text-in-Send.ensures c.put_given.ensures.log)

pub returns-in-Send-clause-over : goal.returns-in-Send-clause-over
returns-in-Send-clause-over g c =
    over_looped c.args.epoch c.args.told.now c.take.new.told c.take.new.into c.is_loop-runs.result
    (subst (λ (t : List ℕ). c.is_loop-runs.result ≡ text_eq t loop_text) c.text.ensures c.is_loop-runs.ensures) (c.in-Ok.ensures.sent c.in-Send.is)

pub returns-in_default-turn-clause-over : goal.returns-in_default-turn-clause-over
returns-in_default-turn-clause-over g c = λ e. c.in-Ok.ensures.over (sym c.rest_of-due.ensures ∙ e)
