use Rattle.std.proofs.Common.{◌≡◌, sym, ap, ◌∙◌, subst, inr, refl, true, false}
use Rattle.ls_session.specs.Record.{begun_again}
use Rattle.ls_record.specs.Records.{forced}
use Rattle.ls_told.specs.Spoken.{Spoken, is_forced}
use Rattle.ls_told.specs.Requests.{is_spent}
use Rattle.ls_told.proofs.Moves.{forced_again}
use Rattle.ls_taking.specs.Lives.{LivesAs}
use Rattle.ls_parts.proofs.Codes.{force_is}
use Rattle.ls_parts.proofs.Living.{lives_forced, lives_again, forced_is}
use Rattle.ls_parts.proofs.parts.SessionParts.force_rebind.Goals as goal

pub returns-then-not-is_forced-clause-lives : goal.returns-then-not-is_forced-clause-lives
returns-then-not-is_forced-clause-lives g c =
    let r = c.requires.lives.0 in
    let l = c.requires.lives.1 in
    let s = c.args.self.now in
    let config = g.N.House.deed.config in
    let free : is_forced r.session.streams ≡ false =
    forced_is config s.number s.history.list s.watches.items r.session l.told ∙ (sym c.is_forced.ensures ∙ c.if-not-is_forced.true) in (
      begun_again (forced r.session) r,
      subst (λ h. LivesAs config s.number h s.watches.items s.subs.items c.force_rebind.new.self (begun_again (forced r.session) r))
          (sym (ap (λ h. h.list) c.tell.ensures))
          (lives_forced config s.number s.history.list s.watches.items s.subs.items s.session r c.force_rebind.new.self l free
          (c.in-Ok.ensures.accepted r l.stands).1),
    )

pub returns-else-not-is_forced-clause-accepted : goal.returns-else-not-is_forced-clause-accepted
returns-else-not-is_forced-clause-accepted g c =
    let r = c.requires.lives.0 in
    let l = c.requires.lives.1 in
    let s = c.args.self.now in
    let config = g.N.House.deed.config in
    let is : is_forced r.session.streams ≡ true =
    forced_is config s.number s.history.list s.watches.items r.session l.told ∙ (sym c.is_forced.ensures ∙ c.if-not-is_forced.false) in (
      record {
        session = r.session;
        told = l.told;
        code_is = force_is config (is_spent s.history.list) r.session ∙ (c.in-Ok.ensures.accepted r l.stands).0;
      },
      record { lines = inr refl; forced = ap (λ (p : Spoken). is_forced p.streams) (sym l.told.told) ∙ is },
    )

pub returns-else-not-is_forced-clause-lives : goal.returns-else-not-is_forced-clause-lives
returns-else-not-is_forced-clause-lives g c =
    let r = c.requires.lives.0 in
    let l = c.requires.lives.1 in
    let s = c.args.self.now in
    let config = g.N.House.deed.config in
    let is : is_forced r.session.streams ≡ true =
    forced_is config s.number s.history.list s.watches.items r.session l.told ∙ (sym c.is_forced.ensures ∙ c.if-not-is_forced.false) in (
      begun_again (forced r.session) r,
      lives_again config s.number s.history.list s.watches.items s.subs.items s.session r (forced r.session) c.force_rebind.new.self l
          (forced_again r.session is) (c.in-Ok.ensures.accepted r l.stands).1,
    )
