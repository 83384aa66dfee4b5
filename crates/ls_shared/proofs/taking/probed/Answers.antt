use Rattle.std.proofs.Common.{◌≡◌, List, subst, sym}
use Rattle.ls_register.specs.declared.told.Told.{Told}
use Rattle.ls_shared.specs.Taking.{EndsTurn}
use Rattle.ls_shared.proofs.Turning.{probe_ends, spoke_ends}
use Rattle.ls_shared.proofs.taking.probed.Goals as goal

pub returns-then-probe-clause-ends : goal.returns-then-probe-clause-ends
returns-then-probe-clause-ends g c = λ held none.
    let p = c.args.parts.now in
    let gave = c.probe.ensures.gave c.if-probe.true in
    probe_ends g.N.House.deed.config p.number c.args.epoch c.args.now held p.history.list c.probe.new.self.history.list p.watches.items
    c.probe.new.into c.args.quiet (c.probe.ensures.silent c.if-probe.true) gave.0 gave.1 none

pub returns-else-probe-clause-ends : goal.returns-else-probe-clause-ends
returns-else-probe-clause-ends g c = λ held none.
    let p = c.args.parts.now in
    subst
    (λ (es : List Told). EndsTurn g.N.House.deed.config p.number c.args.epoch c.args.now held p.history.list es p.watches.items c.probe.new.into
    c.args.quiet) (sym (c.probe.ensures.stays c.if-probe.false))
    (spoke_ends g.N.House.deed.config p.number c.args.epoch c.args.now held p.history.list p.watches.items c.probe.new.into c.args.quiet
    (c.probe.ensures.spoke c.if-probe.false) none)
