use Rattle.std.proofs.Common.{◌≡◌, drop, map}
use Rattle.httparse.specs.Spans.{header_bytes}
use Rattle.ls_http.specs.Fields.{first_value}
use Rattle.ls_http.proofs.fields.first_value.Given as goal

-- no field so far has the name
abbrev pub invariant-loop-header : goal.invariant-loop-header
invariant-loop-header l =
    first_value l.name (map (header_bytes l.buf) (drop l.header-index l.headers))
    ≡ first_value l.name (map (header_bytes l.buf) l.headers)
