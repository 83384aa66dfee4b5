use Rattle.std.proofs.Common.{ℕ, List, [], inl, inr, refl, sym, subst, arith}
use Rattle.ls_talk.specs.declared.talk.Incoming.TheVariants as incoming
use Rattle.ls_conn.specs.Acting.{known}
use Rattle.ls_conn_ws.specs.Hearing.{LogsBare}
use Rattle.ls_conn_ws.proofs.Hearings.{heeds_after, control_heeds, idle_heeds, closed_heeds, starved_heeds, failed_heeds, failed_hears}
use Rattle.ls_conn_ws.proofs.serving.hear.Goals as goal

pub returns-in-Text-clause-hears : goal.returns-in-Text-clause-hears
returns-in-Text-clause-hears g c =
    c.hear_text.ensures.hears (g.T.LineOut.log c.args.talk.now) (known c.args.desk.now.view c.args.desk.now.seen)
    (subst (λ (t : List ℕ). LogsBare (incoming.Text t) (g.T.LineOut.log c.args.talk.now) (g.T.LineOut.log c.message.new.self)) (sym c.as_slice.ensures) c.in-Text.ensures.log)

pub returns-in-Text-clause-cause : goal.returns-in-Text-clause-cause
returns-in-Text-clause-cause g c =
    heeds_after c.hear_text.result _ _ _ _ _ _ c.in-Text.ensures.cause.counts.0 c.in-Text.ensures.cause.counts.1 c.hear_text.ensures.counts c.hear_text.ensures.cause

pub returns-in-Binary-clause-hears : goal.returns-in-Binary-clause-hears
returns-in-Binary-clause-hears g c =
    c.refuse.ensures.hears incoming.Binary (g.T.LineOut.log c.args.talk.now) (known c.args.desk.now.view c.args.desk.now.seen) c.args.desk.now.stream g.N.House.deed (inl refl) c.in-Binary.ensures.log

pub returns-in-Binary-clause-cause : goal.returns-in-Binary-clause-cause
returns-in-Binary-clause-cause g c =
    heeds_after c.refuse.result _ _ _ _ _ _ c.in-Binary.ensures.cause.counts.0 c.in-Binary.ensures.cause.counts.1 c.refuse.ensures.counts c.refuse.ensures.cause

pub returns-in-Long-clause-hears : goal.returns-in-Long-clause-hears
returns-in-Long-clause-hears g c =
    c.refuse_long.ensures.hears incoming.Long (g.T.LineOut.log c.args.talk.now) (known c.args.desk.now.view c.args.desk.now.seen) c.args.desk.now.stream g.N.House.deed (inr refl) c.in-Long.ensures.log

pub returns-in-Long-clause-cause : goal.returns-in-Long-clause-cause
returns-in-Long-clause-cause g c =
    heeds_after c.refuse_long.result _ _ _ _ _ _ c.in-Long.ensures.cause.counts.0 c.in-Long.ensures.cause.counts.1 c.refuse_long.ensures.counts c.refuse_long.ensures.cause

pub returns-in-Control-clause-hears : goal.returns-in-Control-clause-hears
returns-in-Control-clause-hears g c = (incoming.Control, [], refl, (refl, refl), c.in-Control.ensures.log)

pub returns-in-Control-clause-cause : goal.returns-in-Control-clause-cause
returns-in-Control-clause-cause g c = control_heeds _ _ _ _ c.in-Control.ensures.cause

pub returns-in-NotYet-clause-hears : goal.returns-in-NotYet-clause-hears
returns-in-NotYet-clause-hears g c = (refl, refl, c.in-NotYet.ensures.log)

pub returns-in-NotYet-clause-cause : goal.returns-in-NotYet-clause-cause
returns-in-NotYet-clause-cause g c = idle_heeds _ _ _ _ c.in-NotYet.ensures.cause

pub returns-in-Closed-clause-hears : goal.returns-in-Closed-clause-hears
returns-in-Closed-clause-hears g c = (refl, refl, c.in-Closed.ensures.log)

pub returns-in-Closed-clause-cause : goal.returns-in-Closed-clause-cause
returns-in-Closed-clause-cause g c = closed_heeds _ _ _ _ c.in-Closed.ensures.cause

pub end_of_failure-requires : goal.end_of_failure-requires
end_of_failure-requires g c = omega (arith, c.read_faults-faults.ensures, c.in-Failed.ensures.cause.faults)

pub returns-in-Failed-clause-hears : goal.returns-in-Failed-clause-hears
returns-in-Failed-clause-hears g c = failed_hears g.N.House.deed c.end_of_failure.result _ _ _ _ c.end_of_failure.ensures.read c.in-Failed.ensures.log

pub returns-in-Failed-clause-cause : goal.returns-in-Failed-clause-cause
returns-in-Failed-clause-cause g c =
    failed_heeds c.end_of_failure.result c.read_faults-faults.result _ _ _ _ c.end_of_failure.ensures.read c.read_faults-faults.ensures c.end_of_failure.ensures.fault
    c.end_of_failure.ensures.same c.in-Failed.ensures.cause

pub returns-in-NoMemory-clause-hears : goal.returns-in-NoMemory-clause-hears
returns-in-NoMemory-clause-hears g c = (refl, inl c.in-NoMemory.ensures.log)

pub returns-in-NoMemory-clause-cause : goal.returns-in-NoMemory-clause-cause
returns-in-NoMemory-clause-cause g c = starved_heeds _ _ _ _ c.in-NoMemory.ensures.cause
