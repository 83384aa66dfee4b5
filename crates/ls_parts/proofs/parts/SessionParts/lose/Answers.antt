use Rattle.std.proofs.Common.{sym, ap, ◌∙◌, subst}
use Rattle.ls_session.specs.Record.{begun_anew, after_loss}
use Rattle.ls_session.specs.Session.{StandsSession}
use Rattle.ls_session.specs.declared.session.Lost.{Lost}
use Rattle.ls_record.specs.Records.{unbound_at}
use Rattle.ls_taking.specs.Lives.{LivesAs}
use Rattle.ls_parts.proofs.Living.{lives_unbound, above_floor, lost_bound}
use Rattle.ls_parts.proofs.parts.SessionParts.lose.Goals as goal

pub returns-in-Unbound-clause-lives : goal.returns-in-Unbound-clause-lives
returns-in-Unbound-clause-lives g c =
    let r = c.requires.lives.0 in
    let l = c.requires.lives.1 in
    let s = c.args.self.now in
    let config = g.N.House.deed.config in
    let tick = c.tick-tick.result in
    let most = c.tick-tick.ensures.most in
    let done = c.lose-lost.ensures r l.stands
    (above_floor config s.number s.history.list s.watches.items s.subs.items s.session r c.args.now tick l c.tick-tick.ensures.tick) most in
    let after = begun_anew tick (unbound_at tick r.session) r in (
      after,
      subst (λ h. LivesAs config s.number h s.watches.items s.subs.items c.lose-lost.new.self after) (sym (ap (λ h. h.list) c.tell.ensures))
          (lives_unbound config s.number s.history.list s.watches.items s.subs.items s.session r tick c.lose-lost.new.self l most
          (lost_bound c.args.epoch r.session (sym done.0 ∙ c.in-Unbound.is))
          (subst (λ (x : Lost). StandsSession c.lose-lost.new.self (after_loss tick x r)) c.in-Unbound.is done.1)),
    )
