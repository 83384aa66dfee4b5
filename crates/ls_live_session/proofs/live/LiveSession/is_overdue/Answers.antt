use Rattle.std.proofs.Common.{sym, ap, ◌∙◌, subst, arith}
use Rattle.ls_told.specs.Heard.{heard, counts_as}
use Rattle.ls_told.specs.Spoken.{Spoken}
use Rattle.ls_joining.specs.Speaking.{Speaking}
use Rattle.ls_joining.specs.Leaving.{IsOverdue}
use Rattle.ls_joining.proofs.Living.{alive_is}
use Rattle.ls_live_session.proofs.live.LiveSession.is_overdue.Goals as goal

pub returns-then-is_alive-clause-overdue : goal.returns-then-is_alive-clause-overdue
returns-then-is_alive-clause-overdue g c is =
    let r = c.self.invariant.0.0 in
    let l = c.self.invariant.0.1 in
    let late = c.is_late.ensures.late is in
    subst (λ (v : Speaking). IsOverdue (counts_as c.args.now v.lines) (heard v.number v.lines)) c.self.view_is (record {
      since = late.0;
      alive = sym (ap (λ (p : Spoken). p.life) l.told.told)
          ∙ alive_is r.session.life (sym (c.is_alive.ensures r (rw c.deref-3.ensures l.stands)) ∙ c.if-is_alive.true);
      unbound = sym (ap (λ (p : Spoken). p.unbound) l.told.told) ∙ (sym (c.since-since.ensures r (rw c.deref-2.ensures l.stands)) ∙ late.1);
      late = omega (arith, late.2, rw c.deref.ensures at c.tick-tick.ensures.tick);
    })
