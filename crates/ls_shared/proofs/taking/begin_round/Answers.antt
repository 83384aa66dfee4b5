use Rattle.std.proofs.Common.{◌≡◌, List, subst, sym}
use Rattle.ls_register.specs.declared.told.Told.{Told}
use Rattle.ls_shared.specs.Asking.{GoesRound}
use Rattle.ls_shared.proofs.Asking.{anew_same, anew_round}
use Rattle.ls_shared.proofs.taking.begin_round.Goals as goal

pub returns-clause-same : goal.returns-clause-same
returns-clause-same g c =
    let l = c.requires.lives in
    let b = c.requires.bound in
    (anew_same _ _ _ _ _ _ _ _ _ _ _ _ l.1 b.0 b.1 (c.give.ensures.gives l.0 l.1), c.give.ensures.table)

pub returns-clause-goes : goal.returns-clause-goes
returns-clause-goes g c =
    let l = c.requires.lives in
    let b = c.requires.bound in
    let said = c.give.ensures.gives l.0 l.1 in
    let p = c.args.parts.now in
    subst (λ (es : List Told). GoesRound g.N.House.deed.config p.number es p.watches.items p.watches.items p.subs.items c.give.new.self.session)
    (anew_same _ _ _ _ _ _ _ _ _ _ _ _ l.1 b.0 b.1 said) (anew_round _ _ _ _ _ _ _ _ _ _ _ _ l.1 b.0 b.1 said)
