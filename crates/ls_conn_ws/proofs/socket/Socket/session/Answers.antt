use Rattle.std.proofs.Common.{sym, ap, ◌∙◌}
use Rattle.ls_conn_ws.specs.Streams.{StreamState}
use Rattle.ls_conn_ws.specs.Steps.{SocketState, session_of}
use Rattle.ls_conn_ws.proofs.Between.{session_runs, session_rests, session_none}
use Rattle.ls_conn_ws.proofs.socket.Socket.session.Goals as goal

pub returns-then-running : goal.returns-then-running
returns-then-running g c =
    session_runs c.self.inside.desk.stream c.in-Some.running c.session.result c.in-Some.is (ap (λ (s : StreamState). s.runs) (sym c.running.view_is) ∙ c.if-running.true)
    (c.session.ensures ∙ ap (λ (s : StreamState). s.told.number) c.running.view_is)
    ∙ ap (λ (s : SocketState g.row.T.Denot). session_of s.stream) c.self.view_is

pub returns-else-running : goal.returns-else-running
returns-else-running g c =
    session_rests c.self.inside.desk.stream c.in-Some.running c.in-Some.is (ap (λ (s : StreamState). s.runs) (sym c.running.view_is) ∙ c.if-running.false)
    ∙ ap (λ (s : SocketState g.row.T.Denot). session_of s.stream) c.self.view_is

pub returns-in-None : goal.returns-in-None
returns-in-None g c = session_none c.self.inside.desk.stream c.in-None.is ∙ ap (λ (s : SocketState g.row.T.Denot). session_of s.stream) c.self.view_is
