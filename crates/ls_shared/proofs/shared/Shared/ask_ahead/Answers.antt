use Rattle.std.proofs.Common.{refl, sym, ap, subst, List}
use Rattle.ls_told.specs.Seen.{Watched, SeesMore}
use Rattle.ls_told.proofs.Watching.{sees_same}
use Rattle.ls_shared.proofs.Asking.{asked_on, asks_goes, asks_same, goes_same, none_asked, slot_asked}
use Rattle.ls_shared.proofs.Turning.{asked_same}
use Rattle.ls_shared.proofs.shared.Shared.ask_ahead.Goals as goal

pub returns-in_default-clause-items : goal.returns-in_default-clause-items
returns-in_default-clause-items g c =
    subst (λ (ws : List Watched). SeesMore c.args.parts.now.watches.items ws) (sym (ap (λ p. p.watches.items) c.ask_on.ensures.rest))
    (sees_same c.args.parts.now.watches.items)

pub returns-in_default-clause-goes : goal.returns-in_default-clause-goes
returns-in_default-clause-goes g c = λ held goes.
    let p = c.args.parts.now in
    let new = c.ask_on.new.self in
    goes_same g.N.House.deed.config p.number new.number p.history.list new.history.list held p.watches.items new.watches.items p.subs.items
    new.subs.items new.session new.session (ap (λ p. p.number) c.ask_on.ensures.rest) (ap (λ p. p.history.list) c.ask_on.ensures.rest)
    (ap (λ p. p.watches.items) c.ask_on.ensures.rest) (ap (λ p. p.subs.items) c.ask_on.ensures.rest) refl
    (none_asked g.N.House.deed.config p.number c.args.now p.history.list held p.watches.items p.subs.items p.session new.session goes
    (c.in_default.ensures.asks goes.r goes.lives))

pub returns-then-ask-number-clause-items : goal.returns-then-ask-number-clause-items
returns-then-ask-number-clause-items g c =
    subst (λ (ws : List Watched). SeesMore c.args.parts.now.watches.items ws) (sym (ap (λ p. p.watches.items) c.ask_on.ensures.rest))
    (sees_same c.args.parts.now.watches.items)

pub returns-then-ask-number-clause-goes : goal.returns-then-ask-number-clause-goes
returns-then-ask-number-clause-goes g c = λ held goes.
    let p = c.args.parts.now in
    let new = c.ask_on.new.self in
    goes_same g.N.House.deed.config p.number new.number p.history.list new.history.list held p.watches.items new.watches.items p.subs.items
    new.subs.items new.session new.session (ap (λ p. p.number) c.ask_on.ensures.rest) (ap (λ p. p.history.list) c.ask_on.ensures.rest)
    (ap (λ p. p.watches.items) c.ask_on.ensures.rest) (ap (λ p. p.subs.items) c.ask_on.ensures.rest) refl
    (asks_goes g.N.House.deed.config p.number p.history.list held p.watches.items p.subs.items new.session c.in-Some.ask c.args.now
    (asked_on g.N.House.deed.config p.number c.args.now p.history.list held p.watches.items p.subs.items p.session new.session goes c.in-Some.ask
    (c.in-Some.ensures.asks goes.r goes.lives)))

pub ask_held-requires-clause-asked : goal.ask_held-requires-clause-asked
ask_held-requires-clause-asked g c =
    let p = c.args.parts.now in
    let new = c.ask_on.new.self in
    let r = c.requires.lives in
    asked_same g.N.House.deed.config p.number new.number p.history.list new.history.list p.watches.items new.watches.items p.subs.items new.subs.items
    new.session new.session c.in-Some.ask c.args.now (ap (λ p. p.number) c.ask_on.ensures.rest) (ap (λ p. p.history.list) c.ask_on.ensures.rest)
    (ap (λ p. p.watches.items) c.ask_on.ensures.rest) (ap (λ p. p.subs.items) c.ask_on.ensures.rest) refl (
      _,
      _,
      slot_asked g.N.House.deed.config p.number c.args.now p.history.list p.watches.items p.subs.items new.session r.0 c.in-Some.ask
          (c.in-Some.ensures.asks r.0 r.1),
    )

pub returns-in-Ok-clause-goes : goal.returns-in-Ok-clause-goes
returns-in-Ok-clause-goes g c = λ held goes.
    let p = c.args.parts.now in
    let new = c.ask_on.new.self in
    c.ask_held.ensures.goes held
    (asks_same g.N.House.deed.config p.number new.number p.history.list new.history.list held p.watches.items new.watches.items p.subs.items
    new.subs.items new.session new.session c.in-Some.ask c.args.now (ap (λ p. p.number) c.ask_on.ensures.rest)
    (ap (λ p. p.history.list) c.ask_on.ensures.rest) (ap (λ p. p.watches.items) c.ask_on.ensures.rest)
    (ap (λ p. p.subs.items) c.ask_on.ensures.rest) refl
    (asked_on g.N.House.deed.config p.number c.args.now p.history.list held p.watches.items p.subs.items p.session new.session goes c.in-Some.ask
    (c.in-Some.ensures.asks goes.r goes.lives)))

pub returns-in-Err-clause-goes : goal.returns-in-Err-clause-goes
returns-in-Err-clause-goes g c = λ held goes.
    let p = c.args.parts.now in
    let new = c.ask_on.new.self in
    c.ask_held.ensures.goes held
    (asks_same g.N.House.deed.config p.number new.number p.history.list new.history.list held p.watches.items new.watches.items p.subs.items
    new.subs.items new.session new.session c.in-Some.ask c.args.now (ap (λ p. p.number) c.ask_on.ensures.rest)
    (ap (λ p. p.history.list) c.ask_on.ensures.rest) (ap (λ p. p.watches.items) c.ask_on.ensures.rest)
    (ap (λ p. p.subs.items) c.ask_on.ensures.rest) refl
    (asked_on g.N.House.deed.config p.number c.args.now p.history.list held p.watches.items p.subs.items p.session new.session goes c.in-Some.ask
    (c.in-Some.ensures.asks goes.r goes.lives)))
