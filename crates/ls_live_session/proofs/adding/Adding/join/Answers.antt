use Rattle.ls_live_session.proofs.adding.Adding.join.Goals as goal

pub invariant_of-self : goal.invariant_of-self
invariant_of-self g c =
    let i = c.self.invariant in
    let old = c.deref_mut.result.now in
    let kept = c.join_next.ensures.keeps old.history.list old.subs.items old.session
    c.self.inside.add.now c.self.inside.free i.0.0 (rw c.deref_mut.ensures.value i.0.1) in
    rw c.join_next.ensures.rest ((i.0.0, kept), rw c.deref_mut.ensures.value i.1, rw c.deref_mut.ensures.value i.2, i.3)
