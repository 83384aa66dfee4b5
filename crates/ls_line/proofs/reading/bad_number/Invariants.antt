use Rattle.std.proofs.Common.{◌≡◌, ◌+◌, drop}
use Rattle.ls_line.specs.Reading.{first_bad, is_bad_number}
use Rattle.ls_line.proofs.reading.bad_number.Given as goal

-- the parts left decide
abbrev pub invariant-loop-i : goal.invariant-loop-i
invariant-loop-i l = first_bad is_bad_number (drop l.i l.kinds) l.rest (l.i + 2)
    ≡ first_bad is_bad_number l.kinds l.bytes 2
