use Rattle.std.proofs.Common.{List, sym, subst}
use Rattle.ls_register.specs.Watches.{Watched}
use Rattle.ls_told.specs.Seen.{Testified}
use Rattle.ls_sight.specs.Sights.{IsSight}
use Rattle.ls_sight.proofs.Agreeing.{sight_sees}
use Rattle.ls_sight.proofs.sight.Sight.watch_items.Goals as goal

pub invariant_of-self : goal.invariant_of-self
invariant_of-self g c =
    let t = c.self.inside in
    let config = g.N.House.deed.config in
    let seen : Testified = record {
      number = t.number;
      table = t.lines.table;
      lines = t.lines.list;
      later = t.later.list;
      mine = t.mine.list;
      watches = t.watches.items;
      register = t.place.list;
    } in (
      c.self.invariant.0,
      c.self.invariant.1,
      subst (λ (ws : List Watched). IsSight config t.place (record seen { watches = ws })) (sym c.are_one.ensures.same.1)
          (sight_sees config t.place seen c.add_copies-added.new.others.items c.self.invariant.2 c.add_copies-added.ensures.more c.all_fit.ensures),
      c.self.invariant.3,
    )
