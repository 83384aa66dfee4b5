use Rattle.std.proofs.Common.{arith}
use Rattle.ls_sight.proofs.Agreeing.{at_place}
use Rattle.ls_sight.proofs.watches.is_one_at.Goals as goal

pub returns-clause-not_one : goal.returns-clause-not_one
returns-clause-not_one g c is one =
    let w = c.index_mut-watch.result.now in
    let v = c.index_mut-other.result.now in
    let there = at_place c.args.watches.now.items c.args.i w w c.requires.within.0 c.index_mut-watch.ensures.value in
    let beside = at_place c.args.others.now.items c.args.i v v c.requires.within.1 c.index_mut-other.ensures.value in
    let at = (one w v there beside).at in
    let exact = c.is_that.ensures.exact in
    grind (arith, at, exact, is)
