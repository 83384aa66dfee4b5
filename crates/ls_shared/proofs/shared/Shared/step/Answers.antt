use Rattle.std.proofs.Common.{◌≡◌, ℕ, None, Some, refl, sym, ap, ◌∙◌, subst, List}
use Rattle.ls_session.specs.declared.session.Turn.TheVariants as turn
use Rattle.ls_told.specs.Seen.{Watched, SeesMore}
use Rattle.ls_told.proofs.Watching.{sees_same}
use Rattle.ls_shared.specs.Taking.{EndsTurn}
use Rattle.ls_shared.proofs.Asking.{gave_question, gave_idle, gave_not_due, asks_same}
use Rattle.ls_shared.proofs.Turning.{asked_same, lives_same, gave_asked, gave_lives, gave_begins, gave_ends, gave_none, gave_late, quiet_ends}
use Rattle.ls_shared.proofs.shared.Shared.step.Goals as goal

pub ask-requires-clause-asked : goal.ask-requires-clause-asked
ask-requires-clause-asked g c =
    let r = c.requires.lives in
    asked_same g.N.House.deed.config c.args.parts.now.number c.give.new.self.number c.give.new.self.history.list c.give.new.self.history.list
    c.args.parts.now.watches.items c.give.new.self.watches.items c.args.parts.now.subs.items c.give.new.self.subs.items c.give.new.self.session
    c.give.new.self.session c.in-Ask.ask c.args.now (ap (λ p. p.number) c.give.ensures.rest) refl (ap (λ p. p.watches.items) c.give.ensures.rest)
    (ap (λ p. p.subs.items) c.give.ensures.rest) refl
    (gave_asked _ _ _ _ _ _ _ _ _ _ _ _ (c.give.ensures.gives r.0 r.1) c.in-Ask.ask c.in-Ask.is)

pub returns-in-Idle-clause-items : goal.returns-in-Idle-clause-items
returns-in-Idle-clause-items g c =
    subst (λ (ws : List Watched). SeesMore c.args.parts.now.watches.items ws)
    (sym (ap (λ p. p.watches.items) c.probed.ensures.rest ∙ ap (λ p. p.watches.items) c.give.ensures.rest)) (sees_same c.args.parts.now.watches.items)

pub returns-in-NotDue-clause-items : goal.returns-in-NotDue-clause-items
returns-in-NotDue-clause-items g c =
    subst (λ (ws : List Watched). SeesMore c.args.parts.now.watches.items ws)
    (sym (ap (λ p. p.watches.items) c.probed-in-NotDue.ensures.rest ∙ ap (λ p. p.watches.items) c.give.ensures.rest))
    (sees_same c.args.parts.now.watches.items)

pub returns-in_default : goal.returns-in_default
returns-in_default g c =
    let r = c.requires.lives in
    let gives = c.give.ensures.gives r.0 r.1 in
    record {
      rest = (ap (λ p. p.number) c.give.ensures.rest, ap (λ p. p.place) c.give.ensures.rest, c.give.ensures.table);
      lives =
          lives_same g.N.House.deed.config c.args.parts.now.number c.give.new.self.number c.give.new.self.history.list c.args.parts.now.watches.items
          c.give.new.self.watches.items c.args.parts.now.subs.items c.give.new.self.subs.items c.give.new.self.session
          (ap (λ p. p.number) c.give.ensures.rest) (ap (λ p. p.watches.items) c.give.ensures.rest) (ap (λ p. p.subs.items) c.give.ensures.rest)
          (gave_lives _ _ _ _ _ _ _ _ _ _ _ _ gives);
      items =
          subst (λ (ws : List Watched). SeesMore c.args.parts.now.watches.items ws) (sym (ap (λ p. p.watches.items) c.give.ensures.rest))
          (sees_same c.args.parts.now.watches.items);
      begins = gave_begins _ _ _ _ _ _ _ _ _ _ _ _ gives;
      goes = λ none. absurd (let x : Some c.give.result ≡ None = none in cc);
      turn = λ held goes.
          let said = c.give.ensures.gives goes.r goes.lives in
          subst (λ (ws : List Watched). EndsTurn g.N.House.deed.config c.args.parts.now.number c.args.epoch c.args.now held c.args.parts.now.history.list
          c.give.new.self.history.list ws c.give.new.into c.give.result) (sym (ap (λ p. p.watches.items) c.give.ensures.rest))
          (gave_ends _ _ _ _ _ _ _ _ _ _ _ _ said held c.give.result refl c.in_default.not-Ask c.in_default.not-Idle c.in_default.not-NotDue);
    }

-- the question that stands
pub returns-in_ok-ask-in-Ask-clause-goes : goal.returns-in_ok-ask-in-Ask-clause-goes
returns-in_ok-ask-in-Ask-clause-goes g c = λ none held goes.
    let said = c.give.ensures.gives goes.r goes.lives in
    c.in_ok-ask-in-Ask.ensures.goes held
    (asks_same g.N.House.deed.config c.args.parts.now.number c.give.new.self.number c.give.new.self.history.list c.give.new.self.history.list held
    c.args.parts.now.watches.items c.give.new.self.watches.items c.args.parts.now.subs.items c.give.new.self.subs.items c.give.new.self.session
    c.give.new.self.session c.in-Ask.ask c.args.now (ap (λ p. p.number) c.give.ensures.rest) refl (ap (λ p. p.watches.items) c.give.ensures.rest)
    (ap (λ p. p.subs.items) c.give.ensures.rest) refl
    (gave_question _ _ _ _ _ _ _ _ _ _ _ _ _ _ goes.lives goes.more goes.none said c.in-Ask.ask c.in-Ask.is))

-- nothing is to be given
pub returns-in-Idle-clause-turn : goal.returns-in-Idle-clause-turn
returns-in-Idle-clause-turn g c = λ held goes.
    let said = c.give.ensures.gives goes.r goes.lives in
    quiet_ends g.N.House.deed.config c.args.parts.now.number c.give.new.self.number c.args.epoch c.args.now held c.args.parts.now.history.list
    c.give.new.self.history.list c.probed.new.parts.history.list c.args.parts.now.watches.items c.give.new.self.watches.items
    c.probed.new.parts.watches.items c.probed.new.into turn.Idle c.probed.result
    (ap (λ p. p.number) c.give.ensures.rest) (ap (λ p. p.watches.items) c.give.ensures.rest) (ap (λ p. p.watches.items) c.probed.ensures.rest)
    (gave_begins _ _ _ _ _ _ _ _ _ _ _ _ said)
    (gave_none _ _ _ _ _ _ _ _ _ _ _ _ said held c.in-Idle.is
    (gave_idle _ _ _ _ _ _ _ _ _ _ _ _ _ _ goes.lives goes.more goes.none said c.in-Idle.is))
    (c.probed.ensures.ends held)

pub returns-in-NotDue-clause-turn : goal.returns-in-NotDue-clause-turn
returns-in-NotDue-clause-turn g c = λ held goes.
    let said = c.give.ensures.gives goes.r goes.lives in
    quiet_ends g.N.House.deed.config c.args.parts.now.number c.give.new.self.number c.args.epoch c.args.now held c.args.parts.now.history.list
    c.give.new.self.history.list c.probed-in-NotDue.new.parts.history.list c.args.parts.now.watches.items c.give.new.self.watches.items
    c.probed-in-NotDue.new.parts.watches.items c.probed-in-NotDue.new.into (turn.NotDue c.in-NotDue.at) c.probed-in-NotDue.result
    (ap (λ p. p.number) c.give.ensures.rest) (ap (λ p. p.watches.items) c.give.ensures.rest) (ap (λ p. p.watches.items) c.probed-in-NotDue.ensures.rest)
    (gave_begins _ _ _ _ _ _ _ _ _ _ _ _ said)
    (gave_late _ _ _ _ _ _ _ _ _ _ _ _ said held c.in-NotDue.at c.in-NotDue.is
    (gave_not_due _ _ _ _ _ _ _ _ _ _ _ _ _ _ goes.lives goes.more goes.none said c.in-NotDue.at c.in-NotDue.is))
    (c.probed-in-NotDue.ensures.ends held)
