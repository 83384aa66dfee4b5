use Rattle.std.proofs.Common.{Option, Some, refl, sym, subst}
use Rattle.ls_chron.proofs.Beginnings.{prefix_self}
use Rattle.ls_conn_ws.specs.Giving.{MayGive}
use Rattle.ls_conn_ws.specs.Streams.{StreamState}
use Rattle.ls_conn_ws.specs.declared.running.Given.TheVariants as given
use Rattle.ls_conn_ws.proofs.Logging.{logs_nothing}
use Rattle.ls_conn_ws.proofs.running.give_any.Goals as goal

pub returns-else-running-clause-gives : goal.returns-else-running-clause-gives
returns-else-running-clause-gives g c =
    let s = c.in-Some.running in
    let log = g.T.LineOut.log c.args.talk.now in
    subst (λ (o : Option StreamState). MayGive (given.Rest 18446744073709551615) o (Some s) log log) (sym c.in-Some.is)
    ((refl, logs_nothing log), record { number = refl; epoch = refl; lines = prefix_self s.told.lines })
