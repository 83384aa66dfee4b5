use Rattle.std.proofs.Common.{◌≡◌, take, map}
use Rattle.httparse.specs.Spans.{header_bytes}
use Rattle.ls_http.specs.Fields.{count_of_name}
use Rattle.ls_http.proofs.fields.count_named.Given as goal

abbrev pub invariant-loop-header : goal.invariant-loop-header
invariant-loop-header l = l.count ≡ count_of_name l.name (map (header_bytes l.buf) (take l.header-index l.headers))
