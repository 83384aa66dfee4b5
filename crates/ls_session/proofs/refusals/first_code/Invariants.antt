use Rattle.std.proofs.Common.{◌≡◌, drop}
use Rattle.ls_record.specs.Cases.{first_code}
use Rattle.ls_session.proofs.refusals.first_code.Given as goal

-- none of the rows so far holds
abbrev pub invariant-loop-row : goal.invariant-loop-row
invariant-loop-row l = first_code (drop l.row-index l.rows) ≡ first_code l.rows
