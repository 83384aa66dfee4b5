use Rattle.std.proofs.Common.{◌-◌, refl, sym, ap, ◌∙◌, arith}
use Rattle.ls_register.specs.declared.made.Made.TheVariants.{Freed, Gone}
use Rattle.ls_register.specs.Items.{items_of}
use Rattle.ls_register.specs.Sessions.{is_among, IsCounted}
use Rattle.ls_register.proofs.Rising.{among_filtered}
use Rattle.ls_register.proofs.Counting.{counted_other, counted_gone, items_stay}
use Rattle.ls_register.proofs.book.Book.gone.Goals as goal

pub invariant_of-self-2 : goal.invariant_of-self-2
invariant_of-self-2 g c =
    let b = c.self.inside in
    let counted = c.self.invariant.2 in
    let freed : IsCounted b.made (b.claimed - c.args.slots) c.append.new.entries b.rows c.append.new.writer.list =
    counted_other b.made b.claimed (b.claimed - c.args.slots) b.entries c.append.new.entries b.rows b.writer.list c.append.new.writer.list
    (Freed c.args.slots) counted c.append.ensures.added refl (λ n. refl) (omega (arith, c.if-slots-self.false))
    (omega (arith, counted.few)) c.append.ensures.number in (
      c.append-2.ensures.table ∙ (c.append.ensures.table ∙ c.self.invariant.0),
      ap items_of c.append-2.ensures.added ∙ (items_stay c.append.new.writer.list (Gone c.args.session) refl
          ∙ (ap items_of c.append.ensures.added ∙ (items_stay b.writer.list (Freed c.args.slots) refl ∙ c.self.invariant.1))),
      counted_gone b.made (b.claimed - c.args.slots) c.append.new.entries c.append-2.new.entries c.args.session b.rows c.remove.new.self
          c.append.new.writer.list c.append-2.new.writer.list freed c.append-2.ensures.added (sym c.in_ok-held.ensures.some)
          c.in_ok-held.ensures.rest c.append-2.ensures.number,
    )

pub returns-clause-gone : goal.returns-clause-gone
returns-clause-gone g c =
    let b = c.self.inside in
    let live = (invariant_of-self-2 g c).2.live_is in
    ap (is_among c.args.session) (sym live)
    ∙ (ap (is_among c.args.session) c.in_ok-held.ensures.rest ∙ among_filtered b.rows c.args.session)
