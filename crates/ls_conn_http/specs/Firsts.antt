-- What came of a connection's first request, by cases.
use Rattle.std.specs.Prelude.{ℕ, List, ⊤}
use Rattle.ls_conn.specs.declared.ended.ConnReport.{ConnReport}
use Rattle.ls_conn_http.specs.declared.serving.First.{First}
use Rattle.ls_conn_http.specs.declared.serving.First.TheVariants as first

-- P of the report, where the connection ended
abbrev pub IfEnded : {N : Type 0} → First N → (ConnReport N → Type 0) → Type 0
IfEnded (first.Ended report) P = P report
IfEnded (first.Socket rest) P = ⊤

-- P of the bytes past the handshake, where it is a WebSocket now
abbrev pub IfSocket : {N : Type 0} → First N → (List ℕ → Type 0) → Type 0
IfSocket (first.Ended report) P = ⊤
IfSocket (first.Socket rest) P = P rest.items
