use Rattle.std.proofs.Common.{ℕ, sym, subst, arith}
use Rattle.ls_told.specs.Keeping.{KeepsTold}
use Rattle.ls_taking.proofs.Seeing.{lives_sees}
use Rattle.ls_parts.proofs.Living.{lives_room}
use Rattle.ls_parts.proofs.parts.SessionParts.show.Goals as goal

pub show-requires-clause-few : goal.show-requires-clause-few
show-requires-clause-few g c =
    let s = c.args.self.now in
    let room = lives_room g.N.House.deed.config s.number s.history.list s.watches.items s.subs.items s.session c.requires.lives in
    omega (arith, room)

pub show-requires-clause-told : goal.show-requires-clause-told
show-requires-clause-told g c =
    let s = c.args.self.now in
    let l = c.requires.lives in (
      l.0.session,
      subst (λ (n : ℕ). KeepsTold g.N.House.deed.config n s.history.list s.watches.items l.0.session) (sym c.requires.of.0) l.1.told,
    )

pub returns-clause-lives : goal.returns-clause-lives
returns-clause-lives g c r l =
    let s = c.args.self.now in
    lives_sees g.N.House.deed.config s.number s.history.list s.watches.items c.show.new.watches.items s.subs.items s.session r
    c.show.ensures.more c.show.ensures.fit l
