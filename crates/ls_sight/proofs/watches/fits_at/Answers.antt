use Rattle.std.proofs.Common.{◌≡◌, Some, sym, ◌∙◌, subst}
use Rattle.ls_live.specs.Live.{IsSeenOf}
use Rattle.ls_sight.proofs.Agreeing.{at_place, fits_seen}
use Rattle.ls_sight.proofs.watches.fits_at.Goals as goal

pub returns : goal.returns
returns g c w is =
    let x = c.index-watch.result.now in
    let at = at_place c.args.watches.now.items c.args.i x x c.requires c.index-watch.ensures in
    let y : Some x ≡ Some w = sym at ∙ is in
    let same : x ≡ w = cc in
    fits_seen g.N.House.deed.config w (subst (IsSeenOf g.N.House.deed.config) same c.says.ensures)
