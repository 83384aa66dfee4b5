use Rattle.std.proofs.Common.{◌+◌, ◌≤◌, List, IfSome, sym, subst}
use Rattle.std.specs.Vec.{vec_len, vec_capacity}
use Rattle.ls_register.specs.Watches.{Watched}
use Rattle.ls_joining.specs.Sights.{ShowsIt}
use Rattle.ls_joining.specs.Adding.{IsAdding}
use Rattle.ls_live_session.proofs.adding.Adding.show_items.Goals as goal

pub invariant_of-self : goal.invariant_of-self
invariant_of-self g c =
    let d = c.self.inside in
    let i = c.self.invariant in
    let p = c.deref_mut.result.now in
    let config = g.N.House.deed.config in
    let adds : IsAdding config p.number p.history.list p.watches.items p.subs.items p.session d.add.now d.free d.plan d.seats.items
    d.numbers.items i.0.0 = rw c.deref_mut.ensures.value i.0.1 in
    let shows : IfSome p.place (λ q. ShowsIt q p.number p.history.table) = rw c.deref_mut.ensures.value i.1 in
    let room : vec_len p.subs + 1 ≤ vec_capacity p.subs = rw c.deref_mut.ensures.value i.2 in (
      (
        i.0.0,
        subst (λ (ws : List Watched). IsAdding config p.number p.history.list ws p.subs.items p.session d.add.now d.free d.plan d.seats.items
            d.numbers.items i.0.0) (sym c.watch_items.ensures.same) adds,
      ),
      shows,
      room,
      i.3,
    )
