use Rattle.std.proofs.Common.{◌≡◌, false, Option, IfSome, sym, subst}
use Rattle.ls_told.specs.Requests.{HasBound}
use Rattle.ls_conn_ws.specs.Streams.{StreamState}
use Rattle.ls_conn_ws.specs.Losing.{IsOver}
use Rattle.ls_conn_ws.proofs.serving.told_by.Goals as goal

-- that is what is true of each stream
pub returns-in-Some-clause-over : goal.returns-in-Some-clause-over
returns-in-Some-clause-over g c =
    subst (λ (o : Option StreamState). IfSome o (λ s. HasBound s.epoch s.told.lines × (s.runs ≡ false → IsOver s.epoch s.told))) (sym c.in-Some.is)
    (subst (λ (s : StreamState). HasBound s.epoch s.told.lines × (s.runs ≡ false → IsOver s.epoch s.told)) c.running.view_is c.running.invariant)
