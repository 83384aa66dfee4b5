use Rattle.std.proofs.Common.{◌≡◌, drop}
use Rattle.std.specs.List.{list_all}
use Rattle.ls_request.specs.Values.{is_req_byte}
use Rattle.ls_request.proofs.values.is_req.Given as goal

-- the bytes left decide
abbrev pub invariant-loop-byte : goal.invariant-loop-byte
invariant-loop-byte l = list_all is_req_byte (drop l.byte-index l.text) ≡ list_all is_req_byte l.text
