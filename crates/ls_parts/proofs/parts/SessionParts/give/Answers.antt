use Rattle.std.proofs.Common.{◌≡◌, ℕ, List, [], ◌∷◌, ◌++◌, refl, sym, ap, ◌∙◌}
use Rattle.ls_register.specs.declared.told.Told.TheVariants.{Gave}
use Rattle.ls_session.specs.Session.{current_of}
use Rattle.ls_told.specs.Heard.{counts_as}
use Rattle.ls_parts.proofs.Living.{above_floor}
use Rattle.ls_parts.proofs.Turning.{gives_turned, gives_spent}
use Rattle.ls_parts.proofs.parts.SessionParts.give.Goals as goal

pub returns-in-Send-clause-gives : goal.returns-in-Send-clause-gives
returns-in-Send-clause-gives g c r l =
    let s = c.args.self.now in
    let config = g.N.House.deed.config in
    let tick = c.tick-tick.result in
    let at : tick ≡ counts_as c.args.now s.history.list = c.tick-tick.ensures.tick in
    let done = c.turn-turn.ensures r l.stands
    (above_floor config s.number s.history.list s.watches.items s.subs.items s.session r c.args.now tick l at) c.tick-tick.ensures.most in
    let text : c.fill.new.self ≡ current_of c.turn-turn.new.self = c.fill.ensures ∙ c.current.ensures.line in
    let lines = ap (λ h. h.list) c.tell_given.ensures in
    gives_turned config s.number s.history.list s.watches.items s.subs.items s.session r c.args.epoch c.args.now tick c.turn-turn.new.self
    c.tell_given.new.self.list c.turn-turn.result c.fill.new.self l at c.tick-tick.ensures.most
    (sym (c.is_shut.ensures r l.stands) ∙ c.if-is_shut.false) done.0 done.1 (λ is. (text, lines ∙ ap (λ (t : List ℕ). s.history.list ++ Gave c.args.epoch t tick ∷ []) (c.text.ensures ∙ text)))
    (λ other. absurd (other c.in-Send.is))

pub returns-in_default : goal.returns-in_default
returns-in_default g c =
    let s = c.args.self.now in
    let config = g.N.House.deed.config in
    let tick = c.tick-tick.result in
    let at : tick ≡ counts_as c.args.now s.history.list = c.tick-tick.ensures.tick in
    record {
      rest = refl;
      table = refl;
      gives = λ r l.
          let done = c.turn-turn.ensures r l.stands
          (above_floor config s.number s.history.list s.watches.items s.subs.items s.session r c.args.now tick l at) c.tick-tick.ensures.most in
          gives_turned config s.number s.history.list s.watches.items s.subs.items s.session r c.args.epoch c.args.now tick c.turn-turn.new.self
          s.history.list c.turn-turn.result c.args.into.now l at c.tick-tick.ensures.most
          (sym (c.is_shut.ensures r l.stands) ∙ c.if-is_shut.false) done.0 done.1 (λ is. absurd (c.in_default.not-Send is)) (λ other. refl);
    }

pub returns-then-is_shut-clause-gives : goal.returns-then-is_shut-clause-gives
returns-then-is_shut-clause-gives g c r l =
    let s = c.args.self.now in
    gives_spent g.N.House.deed.config s.number s.history.list s.watches.items s.subs.items s.session r c.args.epoch c.args.now c.args.into.now l
    (sym (c.is_shut.ensures r l.stands) ∙ c.if-is_shut.true)
