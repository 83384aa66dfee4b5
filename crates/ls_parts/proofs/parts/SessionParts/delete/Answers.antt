use Rattle.std.proofs.Common.{◌≡◌, ℕ, [], Some, None, length, sym, ap, ◌∙◌, subst, arith, Err}
use Rattle.std.proofs.lemmas.List.{length-map}
use Rattle.ls_subs.specs.declared.plan.Refusal.{Refusal}
use Rattle.ls_subs.specs.declared.plan.Refusal.TheVariants.{Code}
use Rattle.ls_lawful.specs.Ranges.{IsOrdinal}
use Rattle.ls_record.specs.Lines.{Ends, line_text}
use Rattle.ls_record.specs.Records.{removed, numbered}
use Rattle.ls_session.specs.Record.{begun_again, slots_of}
use Rattle.ls_subs.specs.Standing.{ref_of}
use Rattle.ls_taking.specs.Lives.{LivesAs}
use Rattle.ls_parts.specs.Leaving.{EndsSub}
use Rattle.ls_parts.proofs.Changed.{finds_deleted, lives_removed, last_removed, ends_removed}
use Rattle.ls_parts.proofs.parts.SessionParts.delete.Goals as goal

pub tell_last-requires-clause-last : goal.tell_last-requires-clause-last
tell_last-requires-clause-last g c =
    let r = c.requires.lives.0 in
    let l = c.requires.lives.1 in
    let s = c.args.self.now in
    let done = c.in-Ok-delete.ensures.accepted r l.stands in
    let low = c.code_of_change.ensures.room c.in_default.is in (
      line_text [] (Ends c.args.sub),
      last_removed g.N.House.deed.config s.number s.history.list s.watches.items s.subs.items s.session r l low c.tick-tick.result
          c.tick-tick.ensures.most c.args.sub c.delete.new.self (record { some = c.requires.sub.0; most = c.requires.sub.1 })
          (omega (arith, c.ranges.sub)) done.0 done.2,
    )

pub returns-in-Ok-delete-clause-accepted : goal.returns-in-Ok-delete-clause-accepted
returns-in-Ok-delete-clause-accepted g c =
    let r = c.requires.lives.0 in
    let l = c.requires.lives.1 in
    let s = c.args.self.now in
    let config = g.N.House.deed.config in
    let tick = c.tick-tick.result in
    let done = c.in-Ok-delete.ensures.accepted r l.stands in
    let low = c.code_of_change.ensures.room c.in_default.is in
    let ordinal : IsOrdinal c.args.sub = record { some = c.requires.sub.0; most = c.requires.sub.1 } in
    let last = last_removed config s.number s.history.list s.watches.items s.subs.items s.session r l low tick c.tick-tick.ensures.most c.args.sub
    c.delete.new.self ordinal (omega (arith, c.ranges.sub)) done.0 done.2 in
    let count = c.len.ensures in
    let ok = c.in-Ok-delete.slots.ok in
    let counted = ap length done.1 in (
      finds_deleted config s.number s.history.list s.watches.items s.subs.items s.session r c.args.sub None l low done.0,
      subst (λ (n : ℕ). EndsSub config s.number c.args.sub n s.history.list c.tell_last.new.history.list s.watches.items c.len.result c.take_sub.new.taken.items)
          c.tick-tick.ensures.tick
          (ends_removed config s.number s.history.list s.watches.items s.subs.items s.session r l low tick c.tick-tick.ensures.most c.args.sub c.len.result
          c.tell_last.new.history.list c.take_sub.new.taken.items c.delete.new.self ordinal
          (omega (arith, count, ok, counted, length-map (slots_of c.args.sub r.session.board.round) ref_of))
          (ap (λ h. h.list) (c.tell_last.ensures.told (line_text [] (Ends c.args.sub)) last))
          (λ v of h. c.take_sub.ensures.taken config s.watches.items v of h) done.2),
    )

pub returns-in-Ok-delete-clause-lives : goal.returns-in-Ok-delete-clause-lives
returns-in-Ok-delete-clause-lives g c =
    let r = c.requires.lives.0 in
    let l = c.requires.lives.1 in
    let s = c.args.self.now in
    let config = g.N.House.deed.config in
    let tick = c.tick-tick.result in
    let done = c.in-Ok-delete.ensures.accepted r l.stands in
    let low = c.code_of_change.ensures.room c.in_default.is in
    let ordinal : IsOrdinal c.args.sub = record { some = c.requires.sub.0; most = c.requires.sub.1 } in
    let last = last_removed config s.number s.history.list s.watches.items s.subs.items s.session r l low tick c.tick-tick.ensures.most c.args.sub
    c.delete.new.self ordinal (omega (arith, c.ranges.sub)) done.0 done.2 in
    let after = begun_again (numbered (removed c.args.sub) r.session) r in (
      after,
      subst (λ h. LivesAs config s.number h s.watches.items c.take_sub.new.all.items c.delete.new.self after)
          (sym (ap (λ h. h.list) (c.tell_last.ensures.told (line_text [] (Ends c.args.sub)) last)))
          (lives_removed config s.number s.history.list s.watches.items s.subs.items s.session r l low tick c.tick-tick.ensures.most c.args.sub
          c.take_sub.new.all.items c.delete.new.self ordinal (λ v other h. c.take_sub.ensures.others config s.watches.items v other h) done.2),
    )

pub returns-in-Err-clause-refused : goal.returns-in-Err-clause-refused
returns-in-Err-clause-refused g c code is =
    let r = c.requires.lives.0 in
    let l = c.requires.lives.1 in
    let s = c.args.self.now in
    let low = c.code_of_change.ensures.room c.in_default.is in
    let same : c.in-Err.refusal ≡ Code code = cc in
    finds_deleted g.N.House.deed.config s.number s.history.list s.watches.items s.subs.items s.session r c.args.sub (Some code) l low
    (c.delete.ensures.refused code (c.in-Err.is ∙ ap (λ (e : Refusal). Err e) same) r l.stands)
