use Rattle.std.proofs.Common.{◌-◌, refl, ap, ◌∙◌, arith}
use Rattle.ls_register.specs.declared.made.Made.TheVariants.{Freed}
use Rattle.ls_register.specs.Items.{items_of}
use Rattle.ls_register.proofs.Counting.{counted_other, items_stay}
use Rattle.ls_register.proofs.book.Book.free.Goals as goal

pub invariant_of-self : goal.invariant_of-self
invariant_of-self g c =
    let b = c.self.inside in
    let counted = c.self.invariant.2 in (
      c.append.ensures.table ∙ c.self.invariant.0,
      ap items_of c.append.ensures.added ∙ (items_stay b.writer.list (Freed c.args.slots) refl ∙ c.self.invariant.1),
      counted_other b.made b.claimed (b.claimed - c.args.slots) b.entries c.append.new.entries b.rows b.writer.list c.append.new.writer.list
          (Freed c.args.slots) counted c.append.ensures.added refl (λ n. refl) (omega (arith, c.if-slots-self.false))
          (omega (arith, counted.few)) c.append.ensures.number,
    )
