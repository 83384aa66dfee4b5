use Rattle.std.proofs.Common.{◌≡◌, ◌++◌, take, drop}
use Rattle.ls_line.specs.Pieces.{first_piece, behind}
use Rattle.ls_line.proofs.pieces.comma.Given as goal

-- there was no comma yet
abbrev pub invariant-loop-i : goal.invariant-loop-i
invariant-loop-i l = (take l.i l.bytes ++ first_piece (drop l.i l.bytes) ≡ first_piece l.bytes)
    × (behind (drop l.i l.bytes) ≡ behind l.bytes)
