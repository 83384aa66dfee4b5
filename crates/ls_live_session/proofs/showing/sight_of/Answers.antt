use Rattle.std.proofs.Common.{List, IfSome, sym, subst, arith}
use Rattle.ls_register.specs.Places.{Placed}
use Rattle.ls_register.specs.Watches.{Watched}
use Rattle.ls_told.specs.Keeping.{KeepsTold}
use Rattle.ls_joining.specs.Sights.{ShowsIt}
use Rattle.ls_joining.proofs.Living.{lives_room}
use Rattle.ls_live_session.proofs.showing.sight_of.Goals as goal

pub begin-requires-clause-few : goal.begin-requires-clause-few
begin-requires-clause-few g c =
    let s = c.args.parts.now in
    let room = lives_room g.N.House.deed.config s.number s.history.list s.watches.items s.subs.items s.session c.requires.lives in
    omega (arith, room)

pub begin-requires-clause-told : goal.begin-requires-clause-told
begin-requires-clause-told g c =
    let s = c.args.parts.now in
    let l = c.requires.lives in (
      l.0.session,
      subst (λ (ws : List Watched). KeepsTold g.N.House.deed.config s.number s.history.list ws l.0.session) (sym c.requires.watches) l.1.told,
    )

pub begin-requires-clause-shows : goal.begin-requires-clause-shows
begin-requires-clause-shows g c =
    let s = c.args.parts.now in
    subst (λ (q : Placed). ShowsIt q s.number s.history.table) (sym c.again-place.ensures.0)
    (subst (λ o. IfSome o (λ q. ShowsIt q s.number s.history.table)) c.in-Some.is c.requires.shows)
