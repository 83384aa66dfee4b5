use Rattle.std.proofs.Common.{◌≡◌, arith, inr, refl, length}
use Rattle.ls_update.specs.Reading.{row_before}
use Rattle.ls_update.specs.Writing.{row_behind}
use Rattle.ls_mirror.proofs.NoFields.{no_fields, faulty, unread}
use Rattle.ls_mirror.proofs.table.read_row.Goals as goal

pub returns-then-n-eq0-clause-refused : goal.returns-then-n-eq0-clause-refused
returns-then-n-eq0-clause-refused c =
    let empty : length (row_before c.args.n (row_behind c.args.prev)) ≡ 0 = no_fields c.args.n c.args.prev (omega (arith, c.if-n-eq0.true)) c.requires in
    inr (refl, faulty _ c.args.coded.now empty)

pub returns-then-n-eq0-clause-only_row : goal.returns-then-n-eq0-clause-only_row
returns-then-n-eq0-clause-only_row c = λ row reads.
    let empty : length (row_before c.args.n (row_behind c.args.prev)) ≡ 0 = no_fields c.args.n c.args.prev (omega (arith, c.if-n-eq0.true)) c.requires in
    absurd (unread _ row c.args.coded.now empty reads)
