use Rattle.std.proofs.Common.{List, sym, subst, ap}
use Rattle.ls_register.specs.declared.told.Told.{Told}
use Rattle.ls_told.specs.Seen.{Testified}
use Rattle.ls_told.specs.Requests.{HasBound}
use Rattle.ls_conn.specs.Lasting.{IsLostAt}
use Rattle.ls_conn_ws.specs.Streams.{StreamState}
use Rattle.ls_conn_ws.proofs.Overs.{loses_at, over_lost}
use Rattle.ls_conn_ws.proofs.running.lose.Goals as goal

pub invariant_of-running : goal.invariant_of-running
invariant_of-running g c =
    let s = c.running.inside in
    let only = c.lose.ensures.only in
    let at : IsLostAt s.epoch c.args.now s.told c.lose.new.seen =
    loses_at s.epoch c.args.now s.told c.lose.new.seen c.lose.result only c.lose.ensures.lost in (
      subst (λ (es : List Told). HasBound s.epoch es) (sym (ap (λ (t : Testified). t.lines) only.rest)) c.running.invariant.0,
      λ _. over_lost s.epoch c.args.now s.told c.lose.new.seen at,
    )

pub returns-clause-lost : goal.returns-clause-lost
returns-clause-lost g c =
    let s = c.running.inside in
    subst (λ (v : StreamState). IsLostAt v.epoch c.args.now v.told c.lose.new.seen) c.running.view_is
    (loses_at s.epoch c.args.now s.told c.lose.new.seen c.lose.result c.lose.ensures.only c.lose.ensures.lost)
