use Rattle.std.proofs.Common.{◌≡◌, ◌≤◌, ◌+◌, drop}
use Rattle.ls_line.specs.Pieces.{commas}
use Rattle.ls_line.proofs.pieces.commas.Given as goal

-- those so far and those left are all
abbrev pub invariant-loop-byte : goal.invariant-loop-byte
invariant-loop-byte l = (l.count ≤ l.byte-index) × (l.count + commas (drop l.byte-index l.bytes) ≡ commas l.bytes)
