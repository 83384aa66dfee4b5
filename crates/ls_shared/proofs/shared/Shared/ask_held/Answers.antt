use Rattle.std.proofs.Common.{ℕ, refl, sym, ap, subst, List}
use mathlib.Core.List.{IsPrefix}
use Rattle.ls_register.specs.declared.told.Told.{Told}
use Rattle.ls_live_session.specs.Lives.{Lives}
use Rattle.ls_event.specs.declared.event.Entry.{Entry}
use Rattle.ls_live_session.specs.Replying.{TakesFrom}
use Rattle.ls_shared.proofs.Asking.{asked_round, asks_same, goes_same, stayed_round}
use Rattle.ls_shared.proofs.Turning.{asked_same, replied_begins, either_lives}
use Rattle.ls_shared.proofs.shared.Shared.ask_held.Goals as goal

pub returns-in-Ok-clause-lives : goal.returns-in-Ok-clause-lives
returns-in-Ok-clause-lives g c =
    let a =
    asked_same g.N.House.deed.config c.args.parts.now.number c.find.new.self.number c.args.parts.now.history.list c.find.new.self.history.list
    c.args.parts.now.watches.items c.find.new.self.watches.items c.args.parts.now.subs.items c.find.new.self.subs.items c.args.parts.now.session
    c.find.new.self.session c.args.ask c.args.now (ap (λ p. p.number) c.find.ensures.rest) (ap (λ p. p.history.list) c.find.ensures.rest)
    c.find.ensures.same.0 c.find.ensures.same.1 (ap (λ p. p.session) c.find.ensures.rest) c.requires.asked in
    subst
    (λ (n : ℕ). Lives g.N.House.deed.config n c.take_from.new.self.history.list c.take_from.new.self.watches.items c.take_from.new.self.subs.items
    c.take_from.new.self.session)
    (sym (ap (λ p. p.number) c.take_from.ensures.rest)) (_, (c.in-Ok.ensures.takes a.0 a.1 a.2).0.lives)

pub returns-in-Ok-clause-begins : goal.returns-in-Ok-clause-begins
returns-in-Ok-clause-begins g c =
    let a =
    asked_same g.N.House.deed.config c.args.parts.now.number c.find.new.self.number c.args.parts.now.history.list c.find.new.self.history.list
    c.args.parts.now.watches.items c.find.new.self.watches.items c.args.parts.now.subs.items c.find.new.self.subs.items c.args.parts.now.session
    c.find.new.self.session c.args.ask c.args.now (ap (λ p. p.number) c.find.ensures.rest) (ap (λ p. p.history.list) c.find.ensures.rest)
    c.find.ensures.same.0 c.find.ensures.same.1 (ap (λ p. p.session) c.find.ensures.rest) c.requires.asked in
    subst (λ (es : List Told). IsPrefix es c.take_from.new.self.history.list) (ap (λ p. p.history.list) c.find.ensures.rest)
    (replied_begins _ _ _ _ _ _ _ _ _ _ _ (c.in-Ok.ensures.takes a.0 a.1 a.2).0)

pub returns-in-Err-clause-lives : goal.returns-in-Err-clause-lives
returns-in-Err-clause-lives g c =
    let a =
    asked_same g.N.House.deed.config c.args.parts.now.number c.find.new.self.number c.args.parts.now.history.list c.find.new.self.history.list
    c.args.parts.now.watches.items c.find.new.self.watches.items c.args.parts.now.subs.items c.find.new.self.subs.items c.args.parts.now.session
    c.find.new.self.session c.args.ask c.args.now (ap (λ p. p.number) c.find.ensures.rest) (ap (λ p. p.history.list) c.find.ensures.rest)
    c.find.ensures.same.0 c.find.ensures.same.1 (ap (λ p. p.session) c.find.ensures.rest) c.requires.asked in
    subst
    (λ (n : ℕ). Lives g.N.House.deed.config n c.take_from.new.self.history.list c.take_from.new.self.watches.items c.take_from.new.self.subs.items
    c.take_from.new.self.session)
    (sym (ap (λ p. p.number) c.take_from.ensures.rest))
    (either_lives _ _ _ _ _ _ _ _ _ c.in-Err.ensures.err.0 (c.in-Err.ensures.err.1 a.0 a.1 a.2))

pub returns-in-Ok-clause-goes : goal.returns-in-Ok-clause-goes
returns-in-Ok-clause-goes g c = λ held asks.
    let config = g.N.House.deed.config in
    let old = c.find.new.self in
    let new = c.take_from.new.self in
    let a =
    asks_same config c.args.parts.now.number old.number c.args.parts.now.history.list old.history.list held c.args.parts.now.watches.items
    old.watches.items c.args.parts.now.subs.items old.subs.items c.args.parts.now.session old.session c.args.ask c.args.now
    (ap (λ p. p.number) c.find.ensures.rest) (ap (λ p. p.history.list) c.find.ensures.rest) c.find.ensures.same.0 c.find.ensures.same.1
    (ap (λ p. p.session) c.find.ensures.rest) asks in
    let t = c.in-Ok.ensures.takes a.r a.q a.asked in
    goes_same config old.number new.number new.history.list new.history.list held new.watches.items new.watches.items new.subs.items new.subs.items
    new.session new.session (ap (λ p. p.number) c.take_from.ensures.rest) refl refl refl refl
    (asked_round config held old.number old.history.list new.history.list old.watches.items new.watches.items new.subs.items new.session a.r a.q c.in-Ok.told
    c.take_from.ensures.more a.asked.asks
    (subst (λ (h : List Entry). TakesFrom config old.number old.history.list new.history.list new.watches.items new.subs.items new.session a.r a.q h c.in-Ok.told)
    (sym t.1) t.0) a.more a.none)

pub returns-in-Err-clause-goes : goal.returns-in-Err-clause-goes
returns-in-Err-clause-goes g c = λ held asks.
    let config = g.N.House.deed.config in
    let old = c.find.new.self in
    let new = c.take_from.new.self in
    let a =
    asks_same config c.args.parts.now.number old.number c.args.parts.now.history.list old.history.list held c.args.parts.now.watches.items
    old.watches.items c.args.parts.now.subs.items old.subs.items c.args.parts.now.session old.session c.args.ask c.args.now
    (ap (λ p. p.number) c.find.ensures.rest) (ap (λ p. p.history.list) c.find.ensures.rest) c.find.ensures.same.0 c.find.ensures.same.1
    (ap (λ p. p.session) c.find.ensures.rest) asks in
    let e = c.in-Err.ensures.err in
    goes_same config old.number new.number old.history.list new.history.list held new.watches.items new.watches.items new.subs.items new.subs.items
    new.session new.session (ap (λ p. p.number) c.take_from.ensures.rest) e.0 refl refl refl
    (stayed_round config held old.number _ old.history.list old.watches.items new.watches.items new.subs.items new.session a.r
    c.take_from.ensures.more a.more a.none (e.1 a.r a.q a.asked))
