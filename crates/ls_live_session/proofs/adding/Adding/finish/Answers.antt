use Rattle.std.proofs.Common.{sym, subst, IfSome}
use Rattle.ls_told.specs.Heard.{counts_as}
use Rattle.ls_joining.specs.Sights.{ShowsIt}
use Rattle.ls_joining.specs.Adding.{AddsTo}
use Rattle.ls_live_session.proofs.adding.Adding.finish.Goals as goal

pub finish_in-requires-clause-none : goal.finish_in-requires-clause-none
finish_in-requires-clause-none g c = (c.self.invariant.3.none, c.self.invariant.3.empty)

pub finish_in-requires-clause-enough : goal.finish_in-requires-clause-enough
finish_in-requires-clause-enough g c = c.self.invariant.3.enough

pub invariant_of-result : goal.invariant_of-result
invariant_of-result g c =
    let i = c.self.invariant in
    let old = c.deref_mut.result.now in
    let added = c.finish_in.ensures.added c.self.inside.add.now c.self.inside.free i.0.0 i.3.schema_is (rw c.deref_mut.ensures.value i.0.1) in
    rw c.finish_in.ensures.rest
    (added.0, subst (λ t. IfSome old.place (λ p. ShowsIt p old.number t)) (sym c.finish_in.ensures.table) (rw c.deref_mut.ensures.value i.1))

pub returns-clause-added : goal.returns-clause-added
returns-clause-added g c =
    let i = c.self.invariant in
    let added = c.finish_in.ensures.added c.self.inside.add.now c.self.inside.free i.0.0 i.3.schema_is (rw c.deref_mut.ensures.value i.0.1) in
    subst (λ s. AddsTo g.N.House.deed.config s.number s.add s.free (counts_as c.args.now s.lines) s.lines c.finish_in.new.parts.history.list s.watches)
    c.self.view_is (rw c.deref_mut.ensures.value at added.1)
