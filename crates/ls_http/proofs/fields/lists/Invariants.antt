use Rattle.std.proofs.Common.{◌≡◌, drop, map}
use Rattle.httparse.specs.Spans.{header_bytes}
use Rattle.ls_http.specs.Fields.{lists}
use Rattle.ls_http.proofs.fields.lists.Given as goal

-- no field so far lists the token
abbrev pub invariant-loop-header : goal.invariant-loop-header
invariant-loop-header l =
    lists l.case_counts l.name l.token (map (header_bytes l.buf) (drop l.header-index l.headers))
    ≡ lists l.case_counts l.name l.token (map (header_bytes l.buf) l.headers)
