use Rattle.std.proofs.Common.{refl, subst, sym, ◌∙◌, ◌≡◌, ◌++◌, arith, ap, List, Bool, None, Some, is_some}
use Rattle.ls_cells.specs.Settled.{KnowsSettled}
use Rattle.ls_cells.proofs.Places.{set_back}
use Rattle.ls_cells.proofs.Items.{as_many}
use Rattle.ls_cells.proofs.Calls.{join_did, may_did}
use Rattle.ls_cells.proofs.Settling.{as_many_rows, joined_settled}
use Rattle.ls_cells.proofs.cells.join_in.Goals as goal

pub returns-then-index-len-clause-joined : goal.returns-then-index-len-clause-joined
returns-then-index-len-clause-joined c = λ items a b v st on within allowed some most few numbered slot.
    absurd (omega (arith, within, c.if-index-len.true, c.len.ensures, as_many (a ++ b) 0 c.args.cells.now.items items st.cells))

pub returns-then-live-clause-joined : goal.returns-then-live-clause-joined
returns-then-live-clause-joined c = λ items a b v st on within allowed some most few numbered slot.
    absurd (omega (arith, few, c.if-live.true, st.live))

pub returns-in-Ok-None-clause-joined : goal.returns-in-Ok-None-clause-joined
returns-in-Ok-None-clause-joined c = λ items a b v st on within allowed some most few numbered slot.
    let did = join_did c.args.cells.now.items c.args.item c.index_mut.result.now (omega arith) c.index_mut.ensures.value
    c.join_on.new.cell c.args.live.now c.args.n c.args.mode c.args.snapshot c.in-Ok-None.field-0 c.in-Ok-None.ensures.shape
    c.in-Ok-None.ensures.answer c.in-Ok-None.ensures.stands items a b v st on allowed some most few numbered slot in
    absurd (let e : None ≡ Some v.number = sym c.in-Ok-None.field-0-is ∙ did.0 in cc)

pub returns-in-Ok-Some-clause-joined : goal.returns-in-Ok-Some-clause-joined
returns-in-Ok-Some-clause-joined c = λ items a b v st on within allowed some most few numbered slot.
    let did = join_did c.args.cells.now.items c.args.item c.index_mut.result.now (omega arith) c.index_mut.ensures.value
    c.join_on.new.cell c.args.live.now c.args.n c.args.mode c.args.snapshot c.in-Ok-Some.field-0 c.in-Ok-Some.ensures.shape
    c.in-Ok-Some.ensures.answer c.in-Ok-Some.ensures.stands items a b v st on allowed some most few numbered slot in
    (sym c.in-Ok-Some.field-0-is ∙ did.0, did.1)

pub returns-in-Ok-Some-clause-may : goal.returns-in-Ok-Some-clause-may
returns-in-Ok-Some-clause-may c = λ items lives st some.
    let may = c.in-Ok-Some.ensures.may (ap is_some c.in-Ok-Some.field-0-is) in
    may_did c.args.cells.now.items c.args.item c.index_mut.result.now (omega arith) c.index_mut.ensures.value c.args.live.now c.args.n c.args.mode
    items lives st (omega arith) may.0 may.1 may.2

pub clear_marks-requires : goal.clear_marks-requires
clear_marks-requires c =
    omega (arith, as_many_rows c.args.settled.now.items c.args.cells.now.items c.requires, c.if-index-len.false, c.len.ensures)

pub returns-in-Err-clause-settled : goal.returns-in-Err-clause-settled
returns-in-Err-clause-settled c =
    joined_settled c.args.settled.now.items c.clear_marks.new.rows.items c.args.cells.now.items c.args.item c.join_on.new.cell c.requires
    c.in-Ok.ensures.rest c.in-Ok.ensures.ok

pub returns-in-Ok-None-clause-settled : goal.returns-in-Ok-None-clause-settled
returns-in-Ok-None-clause-settled c =
    joined_settled c.args.settled.now.items c.clear_marks.new.rows.items c.args.cells.now.items c.args.item c.join_on.new.cell c.requires
    c.in-Ok.ensures.rest c.in-Ok.ensures.ok

pub returns-in-Ok-Some-clause-settled : goal.returns-in-Ok-Some-clause-settled
returns-in-Ok-Some-clause-settled c =
    joined_settled c.args.settled.now.items c.clear_marks.new.rows.items c.args.cells.now.items c.args.item c.join_on.new.cell c.requires
    c.in-Ok.ensures.rest c.in-Ok.ensures.ok

pub returns-then-index-len-clause-settled : goal.returns-then-index-len-clause-settled
returns-then-index-len-clause-settled c = c.requires

pub returns-then-live-clause-settled : goal.returns-then-live-clause-settled
returns-then-live-clause-settled c = c.requires

pub returns-then-index-len-clause-none : goal.returns-then-index-len-clause-none
returns-then-index-len-clause-none c = λ absent. (refl, refl)

pub returns-then-live-clause-none : goal.returns-then-live-clause-none
returns-then-live-clause-none c = λ absent. (refl, refl)

pub returns-in_default-clause-settled : goal.returns-in_default-clause-settled
returns-in_default-clause-settled c =
    subst (λ (rows : List (List Bool)). KnowsSettled rows c.args.cells.now.items) (sym c.in_default.ensures.err) c.requires

pub returns-in-Ok-None-clause-none : goal.returns-in-Ok-None-clause-none
returns-in-Ok-None-clause-none c = λ absent. (
  set_back c.args.cells.now.items c.args.item c.index_mut.result.now c.join_on.new.cell c.index_mut.ensures.value
      (c.in-Ok-None.ensures.none c.in-Ok-None.field-0-is),
  refl,
)

pub index_mut-requires : goal.index_mut-requires
index_mut-requires c = omega (arith, c.if-index-len.false, c.len.ensures)

pub index-requires : goal.index-requires
index-requires c = omega (arith, c.if-index-len.false, c.len.ensures)

pub overflow_add-live : goal.overflow_add-live
overflow_add-live c = omega (arith, c.if-live.false)

pub returns-in_default-clause-err : goal.returns-in_default-clause-err
returns-in_default-clause-err c = (refl, refl)

pub returns-in-Err-clause-err : goal.returns-in-Err-clause-err
returns-in-Err-clause-err c = (
  set_back c.args.cells.now.items c.args.item c.index_mut.result.now c.join_on.new.cell c.index_mut.ensures.value c.in-Err.ensures.err,
  refl,
)
