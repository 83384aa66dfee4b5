use Rattle.std.proofs.Common.{sym, ap, subst}
use Rattle.ls_taking.specs.Lives.{LivesAs}
use Rattle.ls_parts.proofs.Living.{lives_probed}
use Rattle.ls_parts.proofs.parts.SessionParts.probe.Goals as goal

pub returns-clause-lives : goal.returns-clause-lives
returns-clause-lives g c r l =
    let s = c.args.self.now in
    let config = g.N.House.deed.config in
    subst (λ h. LivesAs config s.number h s.watches.items s.subs.items s.session r) (sym (ap (λ h. h.list) c.tell_given.ensures))
    (lives_probed config s.number s.history.list s.watches.items s.subs.items s.session r c.args.epoch c.tick-tick.result c.text.result.now l
    c.requires.room c.tick-tick.ensures.most c.requires.none)
