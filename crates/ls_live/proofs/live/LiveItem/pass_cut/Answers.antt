use Rattle.std.proofs.Common.{sym, ◌∙◌, ap, subst, IfSome, IsSome}
use Rattle.std.specs.Arc.{arc_value}
use Rattle.ls_register.specs.Items.{ShowsItem}
use Rattle.ls_cell.specs.Cell.{Held, cut_at}
use Rattle.ls_live.specs.Live.{HeldItem}
use Rattle.ls_live.proofs.Keeping.{stands_passed}
use Rattle.ls_live.proofs.live.LiveItem.pass_cut.Goals as goal

pub invariant_of-self : goal.invariant_of-self
invariant_of-self g c =
    let i = c.self.inside in
    let said = c.pass.ensures in
    let shape = ap (λ (x : Held). x.item.shape) said.rest in (
      c.self.invariant.0,
      c.self.invariant.1 ∙ sym shape,
      stands_passed i.cell c.pass.new.self c.args.slot i.writer.list
          (subst (λ (x : HeldItem). IsSome (cut_at x.cell c.args.slot)) (sym c.self.view_is) c.requires) said.stands
          c.self.invariant.2,
      subst (λ p. IfSome i.place (λ q. ShowsItem g.N.House.deed.config q i.item p (arc_value i.chron))) (sym shape)
          c.self.invariant.3,
      c.self.invariant.4,
    )
