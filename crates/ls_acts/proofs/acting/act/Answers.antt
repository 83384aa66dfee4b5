use Rattle.std.proofs.Common.{sym, subst}
use Rattle.std.proofs.lemmas.Result.{IfOk-weaker}
use Rattle.ls_request.specs.declared.request.Op.{Op}
use Rattle.ls_acts.specs.Acting.{Acts}
use Rattle.ls_acts.proofs.Operated.{alone_acts}
use Rattle.ls_acts.proofs.acting.act.Goals as goal

pub returns-in-Add-clause-did : goal.returns-in-Add-clause-did
returns-in-Add-clause-did g c = IfOk-weaker c.subscribe.result _ _ (λ code did.
    subst (λ (o : Op). Acts (g.S.ItemSlots.stands c.args.slots.now) (g.S.ItemSlots.stands c.subscribe.new.slots) c.args.session.now
    c.subscribe.new.session c.args.config.now.items c.args.now o code) (sym c.in-Add.is) (did c.args.now)) c.subscribe.ensures.did

pub returns-in-Delete-clause-did : goal.returns-in-Delete-clause-did
returns-in-Delete-clause-did g c = IfOk-weaker c.unsubscribe.result _ _ (λ code did.
    subst (λ (o : Op). Acts (g.S.ItemSlots.stands c.args.slots.now) (g.S.ItemSlots.stands c.unsubscribe.new.slots) c.args.session.now
    c.unsubscribe.new.session c.args.config.now.items c.args.now o code) (sym c.in-Delete.is) (did c.args.config.now.items c.args.now))
    c.unsubscribe.ensures.did

pub returns-in-Reconf-clause-did : goal.returns-in-Reconf-clause-did
returns-in-Reconf-clause-did g c = IfOk-weaker c.reconf.result _ _ (λ code did.
    subst (λ (o : Op). Acts (g.S.ItemSlots.stands c.args.slots.now) (g.S.ItemSlots.stands c.args.slots.now) c.args.session.now
    c.reconf.new.session c.args.config.now.items c.args.now o code) (sym c.in-Reconf.is)
    (alone_acts (g.S.ItemSlots.stands c.args.slots.now) c.args.session.now c.reconf.new.session c.args.config.now.items c.args.now _ code (did c.args.now)
    (λ items before after s numbers st. g.met.S.ItemSlots.no_frequency c.args.slots.now items before s.board.round after _ _ st)))
    c.reconf.ensures.did

pub returns-in-Constrain-clause-did : goal.returns-in-Constrain-clause-did
returns-in-Constrain-clause-did g c = IfOk-weaker c.constrain.result _ _ (λ code did.
    subst (λ (o : Op). Acts (g.S.ItemSlots.stands c.args.slots.now) (g.S.ItemSlots.stands c.args.slots.now) c.args.session.now
    c.constrain.new.session c.args.config.now.items c.args.now o code) (sym c.in-Constrain.is)
    (alone_acts (g.S.ItemSlots.stands c.args.slots.now) c.args.session.now c.constrain.new.session c.args.config.now.items c.args.now _ code did
    (λ items before after s numbers st. st))) c.constrain.ensures.did

pub returns-in-Destroy-clause-did : goal.returns-in-Destroy-clause-did
returns-in-Destroy-clause-did g c =
    subst (λ (o : Op). Acts (g.S.ItemSlots.stands c.args.slots.now) (g.S.ItemSlots.stands c.destroy.new.slots) c.args.session.now
    c.destroy.new.session c.args.config.now.items c.args.now o c.destroy.result) (sym c.in-Destroy.is)
    (c.destroy.ensures c.args.config.now.items c.args.now)

pub returns-in-ForceRebind-clause-did : goal.returns-in-ForceRebind-clause-did
returns-in-ForceRebind-clause-did g c = IfOk-weaker c.force_rebind.result _ _ (λ code did.
    subst (λ (o : Op). Acts (g.S.ItemSlots.stands c.args.slots.now) (g.S.ItemSlots.stands c.args.slots.now) c.args.session.now
    c.force_rebind.new.session c.args.config.now.items c.args.now o code) (sym c.in-ForceRebind.is)
    (alone_acts (g.S.ItemSlots.stands c.args.slots.now) c.args.session.now c.force_rebind.new.session c.args.config.now.items c.args.now _ code
    (did c.args.now) (λ items before after s numbers st. st))) c.force_rebind.ensures.did
