use Rattle.std.proofs.Common.{sym, ◌∙◌, ap, subst, IfSome}
use Rattle.std.specs.Arc.{arc_value}
use Rattle.ls_register.specs.Items.{ShowsItem}
use Rattle.ls_cell.specs.Cell.{Held, HasSlot}
use Rattle.ls_live.specs.Live.{HeldItem}
use Rattle.ls_live.proofs.Keeping.{stands_caught}
use Rattle.ls_live.proofs.live.LiveItem.catch_up.Goals as goal

pub invariant_of-self : goal.invariant_of-self
invariant_of-self g c =
    let i = c.self.inside in
    let said = c.catch_up.ensures in
    let shape = ap (λ (x : Held). x.item.shape) said.rest in (
      c.self.invariant.0,
      c.self.invariant.1 ∙ sym shape,
      stands_caught i.cell c.catch_up.new.self c.args.slot i.writer.list
          (subst (λ (x : HeldItem). HasSlot x.cell c.args.slot) (sym c.self.view_is) c.requires) said.some said.stands
          c.self.invariant.2,
      subst (λ p. IfSome i.place (λ q. ShowsItem g.N.House.deed.config q i.item p (arc_value i.chron))) (sym shape)
          c.self.invariant.3,
      c.self.invariant.4,
    )

pub invariant_of-self-2 : goal.invariant_of-self-2
invariant_of-self-2 g c =
    let i = c.self.inside in
    let said = c.catch_up.ensures in
    let shape = ap (λ (x : Held). x.item.shape) said.rest in (
      c.self.invariant.0,
      c.self.invariant.1 ∙ sym shape,
      stands_caught i.cell c.catch_up.new.self c.args.slot i.writer.list
          (subst (λ (x : HeldItem). HasSlot x.cell c.args.slot) (sym c.self.view_is) c.requires) said.some said.stands
          c.self.invariant.2,
      subst (λ p. IfSome i.place (λ q. ShowsItem g.N.House.deed.config q i.item p (arc_value i.chron))) (sym shape)
          c.self.invariant.3,
      c.self.invariant.4,
    )
