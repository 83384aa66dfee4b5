use Rattle.std.proofs.Common.{refl, sym, ◌∙◌, inr}
use Rattle.ls_parts.proofs.Living.{above_floor}
use Rattle.ls_parts.proofs.Ahead.{asks_slot, asks_none}
use Rattle.ls_parts.proofs.parts.SessionParts.ask_on.Goals as goal

pub returns-in-Ask-clause-asks : goal.returns-in-Ask-clause-asks
returns-in-Ask-clause-asks g c = λ r l.
    let s = c.args.self.now in
    let config = g.N.House.deed.config in
    let at = c.tick-tick.ensures.tick in
    let done = c.turn_round.ensures r l.stands
    (above_floor config s.number s.history.list s.watches.items s.subs.items s.session r c.args.now c.tick-tick.result l at) c.tick-tick.ensures.most in
    asks_slot config s.number c.args.now c.tick-tick.result s.history.list s.watches.items s.subs.items s.session c.turn_round.new.self r
    c.turn_round.result l at done.0 done.1 c.in-Ask.ask c.in-Ask.is (sym c.is_spent.ensures ∙ c.if-is_spent.false)
    (sym (c.is_alive.ensures r l.stands) ∙ c.if-not-is_alive.false)

pub returns-in_default : goal.returns-in_default
returns-in_default g c =
    let s = c.args.self.now in
    let config = g.N.House.deed.config in
    let at = c.tick-tick.ensures.tick in
    record {
      rest = refl;
      asks = λ r l.
          let done = c.turn_round.ensures r l.stands
          (above_floor config s.number s.history.list s.watches.items s.subs.items s.session r c.args.now c.tick-tick.result l at) c.tick-tick.ensures.most in
          inr (asks_none config s.number c.args.now c.tick-tick.result s.history.list s.watches.items s.subs.items s.session c.turn_round.new.self r
          c.turn_round.result l at done.0 done.1 c.in_default.not-Ask);
    }
