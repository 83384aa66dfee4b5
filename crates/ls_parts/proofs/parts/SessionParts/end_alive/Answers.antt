use Rattle.std.proofs.Common.{◌≡◌, ◌⊎◌, ℕ, List, [], sym, ap, ◌∙◌, subst, inl, inr, arith, true}
use Rattle.ls_record.specs.Acting.{destroyed}
use Rattle.ls_record.specs.Records.{ended, timed_out, is_alive}
use Rattle.ls_session.specs.Record.{begun_again}
use Rattle.ls_told.specs.Heard.{heard, counts_as}
use Rattle.ls_told.specs.Spoken.{Spoken}
use Rattle.ls_taking.specs.Groups.{SubSeen}
use Rattle.ls_taking.specs.Lives.{LivesAs}
use Rattle.ls_parts.specs.Leaving.{IsOverdue}
use Rattle.ls_parts.proofs.Living.{lives_ended, above_floor}
use Rattle.ls_parts.proofs.parts.SessionParts.end_alive.Goals as goal

overdue_at : (code now : ℕ) (tick : ℕ) (p : Spoken) → (code ≡ destroyed) ⊎ ((code ≡ timed_out) × IsOverdue now p) → tick ≡ now → code ≡ timed_out
    → IsOverdue tick p
overdue_at code now tick p (inl a) at b = absurd (omega (arith, a, b))
overdue_at code now tick p (inr a) at b = subst (λ (n : ℕ). IsOverdue n p) (sym at) a.1

pub returns-clause-lives : goal.returns-clause-lives
returns-clause-lives g c =
    let r = c.requires.lives.0 in
    let l = c.requires.lives.1 in
    let s = c.args.self.now in
    let config = g.N.House.deed.config in
    let tick = c.tick-tick.result in
    let alive : is_alive r.session.life ≡ true = ap (λ (p : Spoken). is_alive p.life) l.told.told ∙ c.requires.alive in
    let after = begun_again (ended c.args.code r.session) r in (
      after,
      subst (λ (xs : List SubSeen). LivesAs config s.number c.tell.new.self.list s.watches.items xs c.finish.new.self after)
          (sym (ap (λ v. v.items) c.replace-subs.ensures.after ∙ c.new.ensures.items))
          (subst (λ h. LivesAs config s.number h s.watches.items [] c.finish.new.self after) (sym (ap (λ h. h.list) c.tell.ensures))
          (lives_ended config s.number s.history.list s.watches.items s.subs.items s.session r c.args.code tick c.finish.new.self l
          c.tick-tick.ensures.most
          (above_floor config s.number s.history.list s.watches.items s.subs.items s.session r c.args.now tick l c.tick-tick.ensures.tick) alive
          (overdue_at c.args.code (counts_as c.args.now s.history.list) tick (heard s.number s.history.list) c.requires.code c.tick-tick.ensures.tick)
          (c.finish.ensures.alive r l.stands alive).1)),
    )
