use Rattle.std.proofs.Common.{◌≤◌, length, arith}
use Rattle.std.proofs.lemmas.Grind.{common_steps}
use Rattle.ls_sight.proofs.Agreeing.{each_fit}
use Rattle.ls_sight.proofs.watches.all_fit.Goals as goal

pub returns : goal.returns
returns g c =
    let test = c.loop-i-test.false in
    let len = c.len-i-end.ensures in
    let ok = c.args.watches.now.ok in
    let low : length c.args.watches.now.items ≤ c.loop-i.i = grind (arith, common_steps) in
    each_fit g.N.House.deed.config c.args.watches.now.items c.loop-i.i low c.loop-i.invariant
