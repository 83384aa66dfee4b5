use Rattle.std.proofs.Common.{◌≡◌, ◌+◌, ◌-◌, refl, sym, ap, ◌∙◌, arith}
use Rattle.ls_event.specs.declared.limits.TheConstants.{MOST_SLOTS}
use Rattle.ls_register.specs.declared.made.Made.TheVariants.{Claimed}
use Rattle.ls_register.specs.Items.{items_of}
use Rattle.ls_register.specs.Sessions.{claimed_of}
use Rattle.ls_register.proofs.Counting.{counted_other, items_stay, free_is}
use Rattle.ls_register.proofs.book.Book.claim.Goals as goal

pub invariant_of-self : goal.invariant_of-self
invariant_of-self g c =
    let b = c.self.inside in
    let counted = c.self.invariant.2 in
    let free : c.free_slots.result ≡ MOST_SLOTS - b.claimed =
    c.free_slots.ensures ∙ ap (λ n. MOST_SLOTS - n) (ap claimed_of (sym c.self.view_is)
    ∙ free_is b.made b.claimed b.entries b.rows b.writer.list counted) in (
      c.append.ensures.table ∙ c.self.invariant.0,
      ap items_of c.append.ensures.added ∙ (items_stay b.writer.list (Claimed c.args.slots) refl ∙ c.self.invariant.1),
      counted_other b.made b.claimed (b.claimed + c.args.slots) b.entries c.append.new.entries b.rows b.writer.list c.append.new.writer.list
          (Claimed c.args.slots) counted c.append.ensures.added refl (λ n. refl) (omega arith)
          (omega (arith, free, c.if-slots-free_slots.false, counted.few)) c.append.ensures.number,
    )
