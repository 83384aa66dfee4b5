use Rattle.ls_sight.proofs.Agreeing.{fits_seen}
use Rattle.ls_sight.proofs.watches.fits.Goals as goal

pub returns : goal.returns
returns g c = fits_seen g.N.House.deed.config c.args.watch.now c.says.ensures
