use Rattle.std.proofs.Common.{◌∙◌, ap, arith, get_or, length}
use Rattle.ls_hub.proofs.Ticked.{timed_out_is, living_is, nothing_there}
use Rattle.ls_hub.proofs.hub.Hub.is_timed_out.Goals as goal

pub returns-in-None-clause-time : goal.returns-in-None-clause-time
returns-in-None-clause-time c = λ w s st found.
    absurd (nothing_there c.args.self.now w c.args.place s st (omega (arith, ap length c.deref.ensures.value, c.in-None.ensures.lookup.3)) found)

pub returns-then-is_alive-clause-time : goal.returns-then-is_alive-clause-time
returns-then-is_alive-clause-time c = λ w s st found.
    let at = c.in-Some.ensures.lookup in
    timed_out_is c.args.self.now w c.args.place c.in-Some.session.now s c.is_alive.result c.since.result c.is_too_long.result st
    (omega (arith, ap length c.deref.ensures.value, at.3.0)) (at.1 ∙ ap (λ ks. get_or ks c.args.place c.in-Some.session.now) c.deref.ensures.value) found
    c.is_alive.ensures c.if-is_alive.true c.since.ensures c.is_too_long.ensures

pub returns-else-is_alive-clause-time : goal.returns-else-is_alive-clause-time
returns-else-is_alive-clause-time c = λ w s st found.
    let at = c.in-Some.ensures.lookup in
    living_is c.args.self.now w c.args.place c.in-Some.session.now s c.is_alive.result st (omega (arith, ap length c.deref.ensures.value, at.3.0))
    (at.1 ∙ ap (λ ks. get_or ks c.args.place c.in-Some.session.now) c.deref.ensures.value) found c.is_alive.ensures c.if-is_alive.false
