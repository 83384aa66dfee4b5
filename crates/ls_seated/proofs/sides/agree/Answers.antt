use Rattle.std.proofs.Common.{◌≡◌, ◌-◌, get_or, ap, sym, ◌∙◌, subst}
use Rattle.ls_cell.specs.Numbered.{slot_at}
use Rattle.ls_cell.proofs.Changes.{slot_read}
use Rattle.ls_seated.specs.Seats.{cuts_of}
use Rattle.ls_seated.proofs.Seating.{tied_live}
use Rattle.ls_seated.proofs.sides.agree.Goals as goal

pub returns-clause-agree : goal.returns-clause-agree
returns-clause-agree g c =
    let items = c.args.sides.now.items in
    let n = c.args.seat.now.number in
    let b = c.index_mut.result.now in
    let value = subst (λ k. b ≡ get_or items (k - 1) b) c.number-number.ensures c.index_mut.ensures.value in
    ap cuts_of (sym (slot_read items n b (tied_live (slot_at items n) c.args.seat.now c.requires) value))
    ∙ c.agree_at.ensures.agree
