use Rattle.std.proofs.Common.{sym, ap, subst}
use Rattle.ls_session.specs.Record.{begun_anew}
use Rattle.ls_record.specs.Records.{constrained}
use Rattle.ls_taking.specs.Lives.{LivesAs}
use Rattle.ls_parts.proofs.Living.{lives_constrained, above_floor}
use Rattle.ls_parts.proofs.parts.SessionParts.constrain.Goals as goal

pub returns-in-Ok-clause-lives : goal.returns-in-Ok-clause-lives
returns-in-Ok-clause-lives g c =
    let r = c.requires.lives.0 in
    let l = c.requires.lives.1 in
    let s = c.args.self.now in
    let config = g.N.House.deed.config in
    let tick = c.tick-tick.result in
    let most = c.tick-tick.ensures.most in
    let done = c.in-Ok.ensures.accepted r l.stands in
    let after = begun_anew tick (constrained c.args.bandwidth r.session) r in (
      after,
      subst (λ h. LivesAs config s.number h s.watches.items s.subs.items c.constrain.new.self after) (sym (ap (λ h. h.list) c.tell.ensures))
          (lives_constrained config s.number s.history.list s.watches.items s.subs.items s.session r c.args.bandwidth tick c.constrain.new.self l most
          done.0 (done.1 (above_floor config s.number s.history.list s.watches.items s.subs.items s.session r c.args.now tick l c.tick-tick.ensures.tick) most)),
    )
