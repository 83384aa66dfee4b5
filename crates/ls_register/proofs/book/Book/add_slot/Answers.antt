use Rattle.std.proofs.Common.{◌-◌, refl, ap, ◌∙◌, arith}
use Rattle.ls_register.specs.declared.made.Made.TheVariants.{Slot}
use Rattle.ls_register.specs.Items.{items_of}
use Rattle.ls_register.proofs.Counting.{counted_other, items_stay}
use Rattle.ls_register.proofs.Showing.{shows_slot}
use Rattle.ls_register.proofs.book.Book.add_slot.Goals as goal

pub invariant_of-self : goal.invariant_of-self
invariant_of-self g c =
    let b = c.self.inside in
    let counted = c.self.invariant.2 in
    let slot = Slot c.args.item c.args.slot c.args.table in
    let more = ap (λ t. t.list) c.note.ensures.1 ∙ c.append.ensures.added in (
      ap (λ t. t.table) c.note.ensures.1 ∙ (c.append.ensures.table ∙ c.self.invariant.0),
      ap items_of more ∙ (items_stay b.writer.list slot refl ∙ c.self.invariant.1),
      counted_other b.made b.claimed b.claimed b.entries c.append.new.entries b.rows b.writer.list c.note.new.w.list
          slot counted more refl (λ n. refl) (omega arith) counted.few c.append.ensures.number,
    )

pub returns-clause-place : goal.returns-clause-place
returns-clause-place g c =
    let b = c.self.inside in
    shows_slot b.writer.list c.note.result.list c.args.item c.args.slot (c.append.new.entries - 1) c.args.table c.new.result
    (ap (λ t. t.list) c.note.ensures.0 ∙ c.append.ensures.added)
    (omega (arith, c.append.ensures.number, c.self.invariant.2.entries_is)) c.new.ensures
