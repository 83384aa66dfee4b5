use Rattle.std.proofs.Common.{arith, ap, subst, ◌∙◌, ◌≡◌, Some}
use Rattle.ls_cell.specs.Numbered.{set_slot}
use Rattle.ls_cell.specs.Cell.{Held, StandsCell, last_in}
use Rattle.ls_cell.proofs.CellStands.{going_on}
use Rattle.ls_cell.proofs.cell.ItemCell.catch_up.Goals as goal

pub returns-clause-last : goal.returns-clause-last
returns-clause-last c =
    c.in_ok-enqueue_each.ensures.last ∙ ap (λ (v : Held). v.number) c.in_ok-enqueue_run.ensures.going.rest

pub returns-clause-some : goal.returns-clause-some
returns-clause-some c = omega (arith, (going_on _ _ _ c.args.slot _ _ c.in_ok-enqueue_run.ensures.going c.in_ok-enqueue_each.ensures.going).last)

pub returns-clause-rest : goal.returns-clause-rest
returns-clause-rest c = (going_on _ _ _ c.args.slot _ _ c.in_ok-enqueue_run.ensures.going c.in_ok-enqueue_each.ensures.going).rest

pub returns-clause-live : goal.returns-clause-live
returns-clause-live c = c.in_ok-enqueue_each.ensures.going.live

pub returns-clause-stands : goal.returns-clause-stands
returns-clause-stands c = (going_on _ _ _ c.args.slot _ _ c.in_ok-enqueue_run.ensures.going c.in_ok-enqueue_each.ensures.going).stands

pub returns-clause-caught_up : goal.returns-clause-caught_up
returns-clause-caught_up c = λ ss h s st is.
    let last : last_in c.enqueue_each.new.self c.args.slot ≡ c.args.self.now.number =
    c.in_ok-enqueue_each.ensures.last ∙ ap (λ (v : Held). v.number) c.in_ok-enqueue_run.ensures.going.rest in
    subst (λ l. StandsCell c.enqueue_each.new.self (set_slot ss c.args.slot (Some (record s { last = l }))) h)
    (last ∙ st.number)
    ((going_on _ _ _ c.args.slot _ _ c.in_ok-enqueue_run.ensures.going c.in_ok-enqueue_each.ensures.going).stands ss h s st is)

pub returns-in_err-enqueue_each-clause-rest : goal.returns-in_err-enqueue_each-clause-rest
returns-in_err-enqueue_each-clause-rest c =
    (going_on _ _ _ c.args.slot _ _ c.in_ok-enqueue_run.ensures.going c.in_err-enqueue_each.ensures.going).rest

pub returns-in_err-enqueue_each-clause-stands : goal.returns-in_err-enqueue_each-clause-stands
returns-in_err-enqueue_each-clause-stands c =
    (going_on _ _ _ c.args.slot _ _ c.in_ok-enqueue_run.ensures.going c.in_err-enqueue_each.ensures.going).stands
