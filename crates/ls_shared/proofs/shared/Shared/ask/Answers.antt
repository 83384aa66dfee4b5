use Rattle.std.proofs.Common.{◌≡◌, ℕ, refl, sym, ap, ◌∙◌, subst, List}
use Rattle.ls_register.specs.declared.told.Told.{Told}
use Rattle.ls_told.specs.Seen.{Watched, SeesMore}
use Rattle.ls_told.proofs.Watching.{sees_same}
use Rattle.ls_live_session.specs.Lives.{Lives}
use Rattle.ls_shared.specs.Asking.{AsksRound, GoesRound}
use Rattle.ls_shared.proofs.Asking.{rested_round, asks_same, asks_still, goes_same, on_ok}
use Rattle.ls_shared.proofs.Turning.{lives_same}
use Rattle.ls_shared.proofs.shared.Shared.ask.Goals as goal

pub returns-then-rests-clause-lives : goal.returns-then-rests-clause-lives
returns-then-rests-clause-lives g c =
    let p = c.args.parts.now in
    let new = c.rests.new.parts in
    let a = c.requires.asked in
    subst (λ (es : List Told). Lives g.N.House.deed.config new.number es new.watches.items new.subs.items new.session)
    (sym (ap (λ p. p.history.list) c.rests.ensures.rest))
    (lives_same g.N.House.deed.config p.number new.number p.history.list p.watches.items new.watches.items p.subs.items new.subs.items new.session
    (ap (λ p. p.number) c.rests.ensures.rest) c.rests.ensures.same (ap (λ p. p.subs.items) c.rests.ensures.rest)
    (_, (c.rests.ensures.rests c.if-rests.true a.0 a.1 c.args.now a.2).0))

pub returns-then-rests-clause-items : goal.returns-then-rests-clause-items
returns-then-rests-clause-items g c =
    subst (λ (ws : List Watched). SeesMore c.args.parts.now.watches.items ws) (sym c.rests.ensures.same) (sees_same c.args.parts.now.watches.items)

pub returns-then-rests-clause-goes : goal.returns-then-rests-clause-goes
returns-then-rests-clause-goes g c = λ held a.
    let p = c.args.parts.now in
    let new = c.rests.new.parts in
    let said = c.rests.ensures.rests c.if-rests.true a.r a.q c.args.now a.asked in
    goes_same g.N.House.deed.config p.number new.number p.history.list new.history.list held p.watches.items new.watches.items p.subs.items
    new.subs.items new.session new.session (ap (λ p. p.number) c.rests.ensures.rest) (ap (λ p. p.history.list) c.rests.ensures.rest)
    c.rests.ensures.same (ap (λ p. p.subs.items) c.rests.ensures.rest) refl
    (rested_round g.N.House.deed.config held p.number p.history.list p.watches.items p.subs.items new.session a.r a.q a.asked.asks said.0 said.1
    said.2 a.more a.none)

pub returns-clause-goes : goal.returns-clause-goes
returns-clause-goes g c =
    let config = g.N.House.deed.config in
    let p = c.args.parts.now in
    let new = c.rests.new.parts in
    let last = c.ask_item.new.parts in
    on_ok
    ((held : List Watched) → AsksRound config new.number new.history.list held new.watches.items new.subs.items new.session c.args.ask c.args.now
    → GoesRound config last.number last.history.list held last.watches.items last.subs.items last.session)
    ((held : List Watched) → AsksRound config p.number p.history.list held p.watches.items p.subs.items p.session c.args.ask c.args.now
    → GoesRound config last.number last.history.list held last.watches.items last.subs.items last.session)
    c.ask_item.result
    (λ said held a. said held
    (asks_same config p.number new.number p.history.list new.history.list held p.watches.items new.watches.items p.subs.items new.subs.items new.session
    new.session c.args.ask c.args.now (ap (λ p. p.number) c.rests.ensures.rest) (ap (λ p. p.history.list) c.rests.ensures.rest) c.rests.ensures.same
    (ap (λ p. p.subs.items) c.rests.ensures.rest) refl
    (asks_still config p.number p.history.list held p.watches.items p.subs.items p.session new.session c.args.ask c.args.now
    (λ r l. c.rests.ensures.stays c.if-rests.false r l) a)))
    c.ask_item.ensures.goes
