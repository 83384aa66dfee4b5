use Rattle.std.proofs.Common.{sym, subst, lit<}
use Rattle.ls_talk.specs.Lines.{Counts}
use Rattle.ls_conn_ws.specs.Hearing.{RunsOn}
use Rattle.ls_conn_ws.specs.Steps.{ended_by}
use Rattle.ls_conn_ws.specs.declared.serving.Heard.TheVariants as heard
use Rattle.ls_conn_ws.proofs.Going.{heard_on, rested}
use Rattle.ls_conn_ws.proofs.Counting.{heard_runs, message_runs, rested_runs, ended_runs}
use Rattle.ls_conn_ws.proofs.Hearings.{end_is, none_ends, some_ends, heard_goes_on, rest_goes_on, few_after}
use Rattle.ls_conn_ws.proofs.serving.listen.Goals as goal

pub returns-in-Message-clause-goes : goal.returns-in-Message-clause-goes
returns-in-Message-clause-goes g c = λ log st. heard_on _ log heard.Message _ _ _ _ _ _ _ st c.in-Message.ensures.hears

pub returns-in-Message-clause-few : goal.returns-in-Message-clause-few
returns-in-Message-clause-few g c = λ _. lit< tt

pub returns-in-Message-clause-cause : goal.returns-in-Message-clause-cause
returns-in-Message-clause-cause g c = λ x f r. message_runs x _ f _ (heard_runs heard.Message _ x _ _ f _ _ r c.in-Message.ensures.cause)

pub returns-in-Message-clause-stays : goal.returns-in-Message-clause-stays
returns-in-Message-clause-stays g c = λ is. none_ends _ is

pub returns-in-Nothing-clause-goes : goal.returns-in-Nothing-clause-goes
returns-in-Nothing-clause-goes g c = λ log st.
    rested _ log (ended_by c.rest.result) _ _ _ _ _ _ _ _ (heard_on _ log heard.Nothing _ _ _ _ _ _ _ st c.in-Nothing.ensures.hears) c.rest.ensures.rests

pub returns-in-Nothing-clause-few : goal.returns-in-Nothing-clause-few
returns-in-Nothing-clause-few g c = λ is. few_after (ended_by c.rest.result) _ _ _ _ _ _ c.rest.ensures.rests is

pub returns-in-Nothing-clause-cause : goal.returns-in-Nothing-clause-cause
returns-in-Nothing-clause-cause g c = λ x f r.
    subst (λ (y : Counts). RunsOn (ended_by c.rest.result) c.rest.new.idles x y f (g.T.LineOut.faults c.rest.new.talk)) (sym c.rest.ensures.counts)
    (rested_runs (ended_by c.rest.result) _ _ x _ f _ _ _ _ (heard_runs heard.Nothing _ x _ _ f _ _ r c.in-Nothing.ensures.cause) c.rest.ensures.rests)

pub returns-in-Nothing-clause-stays : goal.returns-in-Nothing-clause-stays
returns-in-Nothing-clause-stays g c = λ is. rest_goes_on (ended_by c.rest.result) _ _ _ _ _ _ c.rest.ensures.rests is

pub returns-in-End-clause-goes : goal.returns-in-End-clause-goes
returns-in-End-clause-goes g c = λ log st. heard_on _ log (heard.End c.in-End.end) _ _ _ _ _ _ _ st c.in-End.ensures.hears

pub returns-in-End-clause-few : goal.returns-in-End-clause-few
returns-in-End-clause-few g c = λ is. absurd (some_ends _ is)

pub returns-in-End-clause-cause : goal.returns-in-End-clause-cause
returns-in-End-clause-cause g c = λ x f r. ended_runs c.in-End.end _ x _ f _ (heard_runs (heard.End c.in-End.end) _ x _ _ f _ _ r c.in-End.ensures.cause)

pub returns-in-End-clause-stays : goal.returns-in-End-clause-stays
returns-in-End-clause-stays g c = λ is. heard_goes_on c.in-End.end _ _ _ _ _ _ c.in-End.ensures.hears (end_is _ _ is)
