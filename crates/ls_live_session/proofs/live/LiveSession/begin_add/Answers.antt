use Rattle.std.proofs.Common.{◌∙◌, sym, ap, subst, length, Some, Err}
use Rattle.std.specs.Vec.{vec_len, vec_capacity}
use Rattle.ls_record.specs.Acting.{asks_of}
use Rattle.ls_joining.proofs.Added.{adding_begun, lives_prepared, items_planned}
use Rattle.ls_live_session.specs.Adding.{FindsAdd, MayBegin}
use Rattle.ls_live_session.proofs.Begun.{seen_begun}
use Rattle.ls_live_session.proofs.live.LiveSession.begin_add.Goals as goal

pub invariant_of-result : goal.invariant_of-result
invariant_of-result g c =
    let old = c.deref_mut.result.now in
    let new = c.prepare_in.new.parts in
    let i = c.self.invariant in
    let r = i.0.0 in
    let adds = rw (sym c.deref_mut.ensures.value) at i.0.1 in
    let config = g.N.House.deed.config in
    let begun = adding_begun config old.number old.history.list old.watches.items old.subs.items new.subs.items old.session new.session c.args.add.now
    c.args.free c.in-Ok.prepared.plan c.new.result.items c.new-in-Ok.result.items r adds c.prepare_in.ensures.subs (c.prepare_in.ensures.same r adds.stands)
    c.in-Ok.ensures.ready c.in-Ok.ensures.plan c.in-Ok.ensures.join c.requires.fits (c.in-Ok.ensures.accepted r adds.stands)
    c.in-Ok.ensures.left.0 c.new.ensures.items c.new-in-Ok.ensures.items in
    let may : MayBegin c.args.add.now (length c.in-Ok.prepared.plan.items.items) c.in-Ok.prepared.schema c.in-Ok.prepared.slots.items
    (vec_len c.in-Ok.prepared.slots) (vec_capacity c.in-Ok.prepared.slots) = record {
      schema_is = c.in-Ok.ensures.schema;
      none = c.in-Ok.ensures.none.0;
      empty = c.in-Ok.ensures.none.1;
      enough = c.in-Ok.ensures.enough;
    } in
    rw c.prepare_in.ensures.rest ((r, begun), rw c.deref_mut.ensures.value i.1, c.in-Ok.ensures.room, may)

pub invariant_of-result-in-Err : goal.invariant_of-result-in-Err
invariant_of-result-in-Err g c =
    let old = c.deref_mut.result.now in
    let new = c.prepare_in.new.parts in
    let i = c.self.invariant in
    let r = i.0.0 in
    let adds = rw (sym c.deref_mut.ensures.value) at i.0.1 in
    let lives = lives_prepared g.N.House.deed.config old.number old.history.list old.watches.items old.subs.items new.subs.items old.session
    new.session r c.prepare_in.ensures.subs (c.prepare_in.ensures.same r adds.stands) adds in
    rw c.prepare_in.ensures.rest ((r, lives), rw c.deref_mut.ensures.value i.1)

pub returns-in-Ok-clause-begun : goal.returns-in-Ok-clause-begun
returns-in-Ok-clause-begun g c =
    let config = g.N.House.deed.config in
    let a = c.args.add.now in
    let rest = c.prepare_in.ensures.rest in
    let value = c.deref_mut.ensures.value in
    let view = c.self.view_is in
    let new = c.prepare_in.new.parts in
    let self = c.args.self in
    seen_begun new.number self.number new.place self.place new.history.table self.table new.history.list self.lines new.watches.items self.watches
    a c.args.free _ _ (length c.new.result.items) 0
    (ap (λ p. p.number) rest ∙ ap (λ p. p.number) value ∙ ap (λ s. s.number) view)
    (ap (λ p. p.place) rest ∙ ap (λ p. p.place) value ∙ ap (λ s. s.place) view)
    (ap (λ p. p.history.table) rest ∙ ap (λ p. p.history.table) value ∙ ap (λ s. s.table) view)
    (ap (λ p. p.history.list) rest ∙ ap (λ p. p.history.list) value ∙ ap (λ s. s.lines) view)
    (ap (λ p. p.watches.items) rest ∙ ap (λ p. p.watches.items) value ∙ ap (λ s. s.watches) view)
    (items_planned config a.sub 1 (asks_of config a) c.in-Ok.prepared.plan.items.items c.in-Ok.ensures.plan.items)
    (ap length c.new.ensures.items)

pub returns-in-Err-clause-refused : goal.returns-in-Err-clause-refused
returns-in-Err-clause-refused g c = λ code is.
    let i = c.self.invariant in
    let adds = rw (sym c.deref_mut.ensures.value) at i.0.1 in
    subst (λ s. FindsAdd g.N.House.deed.config s.number s.lines s.watches c.args.free c.args.spent c.args.add.now (Some code)) c.self.view_is
    (record { session = i.0.0.session; told = i.0.1.told; code_is = rw c.deref_mut.ensures.value at (c.in-Err.ensures.refused code (ap (λ e. Err e) is) i.0.0 adds.stands) })
