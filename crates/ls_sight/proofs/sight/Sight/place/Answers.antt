use Rattle.std.proofs.Common.{sym, subst}
use Rattle.ls_register.specs.Places.{Placed}
use Rattle.ls_sight.specs.Sights.{ShowsIt}
use Rattle.ls_sight.proofs.sight.Sight.place.Goals as goal

pub returns-clause-shows : goal.returns-clause-shows
returns-clause-shows g c =
    let t = c.self.inside in
    subst (λ v. ShowsIt c.again.result v.number v.table) c.self.view_is
    (subst (λ (q : Placed). ShowsIt q t.number t.lines.table) (sym c.again.ensures.0) c.self.invariant.2.shows)
