use Rattle.std.proofs.Common.{◌≡◌, ◌<◌, ◌^◌, length, sym, arith, rules}
use Rattle.ls_update.specs.Writing.{row_behind}
use Rattle.ls_update.specs.Reading.{row_before}
use Rattle.ls_update.proofs.First.{exact_row, exact_fault}
use Rattle.ls_update.proofs.ReadBack.{nulls_length}
use Rattle.ls_update.proofs.reading.read.Goals as goal

pub returns-in-Some-clause-only_row : goal.returns-in-Some-clause-only_row
returns-in-Some-clause-only_row c =
    let before : row_before c.args.n (row_behind c.args.prev) ≡ c.as_slice.result.now =
    rw c.in-Some.is (sym c.as_slice.ensures) in
    let fields = rw c.in-Some.is at c.requires.before in
    let small : length c.as_slice.result.now < 2 ^ 64 = rw c.as_slice.ensures
    (omega (arith, fields, c.ranges.n.fits)) in
    rw before (exact_row _ _ c.read_after.result small c.read_after.ensures.row c.read_after.ensures.refused)

pub returns-in-Some-clause-only_fault : goal.returns-in-Some-clause-only_fault
returns-in-Some-clause-only_fault c =
    let before : row_before c.args.n (row_behind c.args.prev) ≡ c.as_slice.result.now =
    rw c.in-Some.is (sym c.as_slice.ensures) in
    let fields = rw c.in-Some.is at c.requires.before in
    let small : length c.as_slice.result.now < 2 ^ 64 = rw c.as_slice.ensures
    (omega (arith, fields, c.ranges.n.fits)) in
    rw before (exact_fault _ _ c.read_after.result small c.read_after.ensures.row c.read_after.ensures.refused)

pub returns-in_ok-nulls-in-None-clause-only_row : goal.returns-in_ok-nulls-in-None-clause-only_row
returns-in_ok-nulls-in-None-clause-only_row c =
    let before : row_before c.args.n (row_behind c.args.prev) ≡ c.as_slice-in-None.result.now = search rules in
    let small : length (row_before c.args.n (row_behind c.args.prev)) < 2 ^ 64 =
    rw c.in-None.is (let n = nulls_length c.args.n in omega (arith, n, c.ranges.n.fits)) in
    rw before (exact_row _ _ c.read_after-in-None.result (rw before at small) c.read_after-in-None.ensures.row
    c.read_after-in-None.ensures.refused)

pub returns-in_ok-nulls-in-None-clause-only_fault :
    goal.returns-in_ok-nulls-in-None-clause-only_fault
returns-in_ok-nulls-in-None-clause-only_fault c =
    let before : row_before c.args.n (row_behind c.args.prev) ≡ c.as_slice-in-None.result.now = search rules in
    let small : length (row_before c.args.n (row_behind c.args.prev)) < 2 ^ 64 =
    rw c.in-None.is (let n = nulls_length c.args.n in omega (arith, n, c.ranges.n.fits)) in
    rw before (exact_fault _ _ c.read_after-in-None.result (rw before at small) c.read_after-in-None.ensures.row
    c.read_after-in-None.ensures.refused)
