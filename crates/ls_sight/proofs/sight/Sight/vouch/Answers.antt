use Rattle.std.proofs.Common.{subst}
use Rattle.ls_told.specs.Seen.{LawfulTold}
use Rattle.ls_sight.proofs.Shown.{lawful_of}
use Rattle.ls_sight.proofs.sight.Sight.vouch.Goals as goal

pub returns-clause-lawful : goal.returns-clause-lawful
returns-clause-lawful g c =
    let t = c.self.inside in
    let i = c.self.invariant.2 in
    subst (LawfulTold g.N.House.deed.config) c.self.view_is
    (i.session, lawful_of g.N.House.deed.config t.number t.lines.list t.watches.items i.session i.told)
