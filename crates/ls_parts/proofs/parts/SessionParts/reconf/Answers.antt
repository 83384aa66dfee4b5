use Rattle.std.proofs.Common.{ℕ, [], Some, None, sym, ap, ◌∙◌, subst, arith}
use Rattle.ls_lawful.specs.Ranges.{IsOrdinal}
use Rattle.ls_record.specs.Lines.{Configures, line_text}
use Rattle.ls_record.specs.Records.{reconfigured, numbered, frequency_in, is_filtered, mode_in}
use Rattle.ls_session.specs.Record.{begun_again}
use Rattle.ls_taking.specs.Lives.{LivesAs}
use Rattle.ls_parts.specs.Leaving.{SetsFrequency}
use Rattle.ls_parts.proofs.Changed.{finds_reconfed, lives_reconfigured, last_reconfigured, sets_reconfigured}
use Rattle.ls_parts.proofs.parts.SessionParts.reconf.Goals as goal

pub tell_last-requires-clause-last : goal.tell_last-requires-clause-last
tell_last-requires-clause-last g c =
    let r = c.requires.lives.0 in
    let l = c.requires.lives.1 in
    let s = c.args.self.now in
    let done = c.in-Ok.ensures.accepted r l.stands in
    let low = c.code_of_change.ensures.room c.in_default.is in (
      line_text [] (Configures c.args.sub (frequency_in (mode_in c.args.sub r.session.board.round) c.args.frequency) (is_filtered (mode_in c.args.sub r.session.board.round))),
      last_reconfigured g.N.House.deed.config s.number s.history.list s.watches.items s.subs.items s.session r l low c.tick-tick.result
          c.tick-tick.ensures.most c.args.sub c.args.frequency c.reconf.new.self (record { some = c.requires.sub.0; most = c.requires.sub.1 })
          (omega (arith, c.ranges.sub)) c.is_small.ensures done.0 done.1,
    )

pub returns-in-Ok-clause-accepted : goal.returns-in-Ok-clause-accepted
returns-in-Ok-clause-accepted g c =
    let r = c.requires.lives.0 in
    let l = c.requires.lives.1 in
    let s = c.args.self.now in
    let config = g.N.House.deed.config in
    let tick = c.tick-tick.result in
    let done = c.in-Ok.ensures.accepted r l.stands in
    let low = c.code_of_change.ensures.room c.in_default.is in
    let ordinal : IsOrdinal c.args.sub = record { some = c.requires.sub.0; most = c.requires.sub.1 } in
    let last = last_reconfigured config s.number s.history.list s.watches.items s.subs.items s.session r l low tick c.tick-tick.ensures.most c.args.sub
    c.args.frequency c.reconf.new.self ordinal (omega (arith, c.ranges.sub)) c.is_small.ensures done.0 done.1 in (
      finds_reconfed config s.number s.history.list s.watches.items s.subs.items s.session r c.args.sub c.args.frequency None l low done.0,
      subst (λ (n : ℕ). SetsFrequency config s.number c.args.sub c.args.frequency n s.history.list c.tell_last.new.history.list s.watches.items)
          c.tick-tick.ensures.tick
          (sets_reconfigured config s.number s.history.list s.watches.items s.subs.items s.session r l low tick c.tick-tick.ensures.most c.args.sub
          c.args.frequency c.tell_last.new.history.list (ap (λ h. h.list) (c.tell_last.ensures.told _ last))),
    )

pub returns-in-Ok-clause-lives : goal.returns-in-Ok-clause-lives
returns-in-Ok-clause-lives g c =
    let r = c.requires.lives.0 in
    let l = c.requires.lives.1 in
    let s = c.args.self.now in
    let config = g.N.House.deed.config in
    let tick = c.tick-tick.result in
    let done = c.in-Ok.ensures.accepted r l.stands in
    let low = c.code_of_change.ensures.room c.in_default.is in
    let ordinal : IsOrdinal c.args.sub = record { some = c.requires.sub.0; most = c.requires.sub.1 } in
    let last = last_reconfigured config s.number s.history.list s.watches.items s.subs.items s.session r l low tick c.tick-tick.ensures.most c.args.sub
    c.args.frequency c.reconf.new.self ordinal (omega (arith, c.ranges.sub)) c.is_small.ensures done.0 done.1 in
    let after = begun_again (numbered (reconfigured c.args.sub c.args.frequency) r.session) r in (
      after,
      subst (λ h. LivesAs config s.number h s.watches.items s.subs.items c.reconf.new.self after)
          (sym (ap (λ h. h.list) (c.tell_last.ensures.told _ last)))
          (lives_reconfigured config s.number s.history.list s.watches.items s.subs.items s.session r l low tick c.tick-tick.ensures.most c.args.sub
          c.args.frequency c.reconf.new.self ordinal done.1),
    )

pub returns-in-Err-clause-refused : goal.returns-in-Err-clause-refused
returns-in-Err-clause-refused g c code is =
    let r = c.requires.lives.0 in
    let l = c.requires.lives.1 in
    let s = c.args.self.now in
    let low = c.code_of_change.ensures.room c.in_default.is in
    finds_reconfed g.N.House.deed.config s.number s.history.list s.watches.items s.subs.items s.session r c.args.sub c.args.frequency (Some code) l low
    (c.reconf.ensures.refused code (c.in-Err.is ∙ is) r l.stands)
