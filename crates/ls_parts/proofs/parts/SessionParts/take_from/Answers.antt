use Rattle.std.proofs.Common.{◌≡◌, ◌⊎◌, inr, length, List, refl, sym, ◌∙◌, ap, subst}
use Rattle.ls_cell.proofs.Arrivals.{ok_with}
use Rattle.ls_event.specs.declared.event.Entry.{Entry}
use Rattle.ls_live.specs.Live.{HeldItem}
use Rattle.ls_session.specs.Record.{Record, Question}
use Rattle.ls_session.specs.Session.{StandsSession}
use Rattle.ls_told.specs.Seen.{Watched, seen_of}
use Rattle.ls_taking.specs.Groups.{SubSeen}
use Rattle.ls_taking.specs.Lives.{LivesAs}
use Rattle.ls_taking.specs.Taking.{IsAskedFrom, IsWhole, caught_up, asked_now}
use Rattle.ls_parts.specs.Replying.{Replies, TakesFrom}
use Rattle.ls_parts.proofs.Asked.{on_err}
use Rattle.ls_parts.proofs.Living.{lives_same}
use Rattle.ls_parts.proofs.parts.SessionParts.take_from.Goals as goal

pub take_due-requires-clause-asked : goal.take_due-requires-clause-asked
take_due-requires-clause-asked g c =
    let s = c.args.self.now in
    let a = c.requires.asked in
    let n = length c.args.item.now.item.history in
    let both = c.in-Ok.ensures.caught s.number c.args.now s.history.list s.session a.0 a.1 c.args.ask refl a.2 in
    (caught_up n a.0, asked_now n a.1, both.0, both.1)

pub returns-then-ask-clause-takes : goal.returns-then-ask-clause-takes
returns-then-ask-clause-takes g c =
    let config = g.N.House.deed.config in
    let s = c.args.self.now in
    let es = s.history.list in
    let h = c.args.item.now.item.history in
    let h' = c.catch_up_in.new.item.item.history in
    let same : h' ≡ h = ap (λ (x : HeldItem). x.history) c.catch_up_in.ensures.item in
    let new = c.take_due.new.self in
    let ws = c.catch_up_in.new.watches.items in
    let subs = c.catch_up_in.new.subs.items in
    let seen = ap (λ x. x.watches.items) c.take_due.ensures.rest in
    ok_with
    (λ told. (r : Record) (q : Question) → IsAskedFrom config s.number es ws subs s.session r q c.args.ask c.args.now
    → IsWhole config ws q c.catch_up_in.new.item
    → Replies config s.number es new.history.list ws new.subs.items new.session r q h' told)
    (λ told. (r : Record) (q : Question)
    → IsAskedFrom config s.number es s.watches.items s.subs.items s.session r q c.args.ask c.args.now
    → TakesFrom config s.number es new.history.list new.watches.items new.subs.items new.session r q h told
    × (seen_of new.watches.items q.live.item ≡ h))
    c.take_due.result
    (λ told said r q asked.
    let both = c.in-Ok.ensures.caught s.number c.args.now es s.session r q c.args.ask refl asked in
    let replies = said (caught_up (length h) r) (asked_now (length h) q) both.0 both.1 in (
      subst (λ (x : List Watched × List Entry).
          Replies config s.number es new.history.list x.0 new.subs.items new.session (caught_up (length h) r) (asked_now (length h) q) x.1 told)
          (λ j. (sym seen j, same j)) replies,
      ap (λ (x : List Watched). seen_of x q.live.item) seen ∙ (both.1.seen ∙ same),
    ))
    c.take_due.ensures.replies

pub returns-else-ask-clause-takes : goal.returns-else-ask-clause-takes
returns-else-ask-clause-takes g c =
    let config = g.N.House.deed.config in
    let s = c.args.self.now in
    let es = s.history.list in
    let h = c.args.item.now.item.history in
    let h' = c.catch_up_in.new.item.item.history in
    let same : h' ≡ h = ap (λ (x : HeldItem). x.history) c.catch_up_in.ensures.item in
    let new = c.take_waiting.new.self in
    let ws = c.catch_up_in.new.watches.items in
    let subs = c.catch_up_in.new.subs.items in
    let seen = ap (λ x. x.watches.items) c.take_waiting.ensures.rest in
    ok_with
    (λ told. (r : Record) (q : Question) → IsAskedFrom config s.number es ws subs s.session r q c.args.ask c.args.now
    → IsWhole config ws q c.catch_up_in.new.item
    → Replies config s.number es new.history.list ws new.subs.items new.session r q h' told)
    (λ told. (r : Record) (q : Question)
    → IsAskedFrom config s.number es s.watches.items s.subs.items s.session r q c.args.ask c.args.now
    → TakesFrom config s.number es new.history.list new.watches.items new.subs.items new.session r q h told
    × (seen_of new.watches.items q.live.item ≡ h))
    c.take_waiting.result
    (λ told said r q asked.
    let both = c.in-Ok.ensures.caught s.number c.args.now es s.session r q c.args.ask refl asked in
    let replies = said (caught_up (length h) r) (asked_now (length h) q) both.0 both.1 in (
      subst (λ (x : List Watched × List Entry).
          Replies config s.number es new.history.list x.0 new.subs.items new.session (caught_up (length h) r) (asked_now (length h) q) x.1 told)
          (λ j. (sym seen j, same j)) replies,
      ap (λ (x : List Watched). seen_of x q.live.item) seen ∙ (both.1.seen ∙ same),
    ))
    c.take_waiting.ensures.replies

pub returns-then-ask-clause-err : goal.returns-then-ask-clause-err
returns-then-ask-clause-err g c =
    let config = g.N.House.deed.config in
    let s = c.args.self.now in
    let es = s.history.list in
    let h = c.args.item.now.item.history in
    let new = c.take_due.new.self in
    let ws = c.catch_up_in.new.watches.items in
    let subs = c.catch_up_in.new.subs.items in
    let seen = ap (λ x. x.watches.items) c.take_due.ensures.rest in
    on_err
    ((new.history.list ≡ es) × (new.subs.items ≡ subs) × ((r : Record) → StandsSession s.session r → StandsSession new.session r))
    ((new.history.list ≡ es) × ((r : Record) (q : Question)
    → IsAskedFrom config s.number es s.watches.items s.subs.items s.session r q c.args.ask c.args.now
    → LivesAs config s.number es new.watches.items new.subs.items new.session r
    ⊎ LivesAs config s.number es new.watches.items new.subs.items new.session (caught_up (length h) r)))
    c.take_due.result
    (λ p. (
      p.0,
      λ r q asked.
          let both = c.in-Ok.ensures.caught s.number c.args.now es s.session r q c.args.ask refl asked in
          inr (subst (λ (x : List Watched × List SubSeen). LivesAs config s.number es x.0 x.1 new.session (caught_up (length h) r))
          (λ j. (sym seen j, sym p.1 j))
          (lives_same config s.number es ws subs s.session (caught_up (length h) r) new.session both.0.lives
          (p.2 (caught_up (length h) r) both.0.lives.stands))),
    ))
    c.take_due.ensures.err

pub returns-else-ask-clause-err : goal.returns-else-ask-clause-err
returns-else-ask-clause-err g c =
    let config = g.N.House.deed.config in
    let s = c.args.self.now in
    let es = s.history.list in
    let h = c.args.item.now.item.history in
    let new = c.take_waiting.new.self in
    let ws = c.catch_up_in.new.watches.items in
    let subs = c.catch_up_in.new.subs.items in
    let rest = c.take_waiting.ensures.rest in
    on_err ((r : Record) → StandsSession s.session r → StandsSession new.session r)
    ((new.history.list ≡ es) × ((r : Record) (q : Question)
    → IsAskedFrom config s.number es s.watches.items s.subs.items s.session r q c.args.ask c.args.now
    → LivesAs config s.number es new.watches.items new.subs.items new.session r
    ⊎ LivesAs config s.number es new.watches.items new.subs.items new.session (caught_up (length h) r)))
    c.take_waiting.result
    (λ p. (
      ap (λ x. x.history.list) rest,
      λ r q asked.
          let both = c.in-Ok.ensures.caught s.number c.args.now es s.session r q c.args.ask refl asked in
          inr (subst (λ (x : List Watched × List SubSeen). LivesAs config s.number es x.0 x.1 new.session (caught_up (length h) r))
          (λ j. (sym (ap (λ x. x.watches.items) rest) j, sym (ap (λ x. x.subs.items) rest) j))
          (lives_same config s.number es ws subs s.session (caught_up (length h) r) new.session both.0.lives
          (p (caught_up (length h) r) both.0.lives.stands))),
    ))
    c.take_waiting.ensures.err
