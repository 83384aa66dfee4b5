use Rattle.std.proofs.Common.{arith, ◌≡◌}
use Rattle.std.proofs.lemmas.List.FromFn.{map-range_with_len_more}
use Rattle.ls_links.specs.Nodes.{alone}
use Rattle.ls_links.proofs.links.own_nodes.Goals as goal

pub loop-i-preserved : goal.loop-i-preserved
loop-i-preserved c = let more = map-range_with_len_more alone 0 c.loop-i.i c.loop-i.i (omega arith) in cc (c.in_ok-push.ensures.items)

pub returns : goal.returns
returns c =
    let all : c.loop-i.i ≡ c.args.lists = omega arith in
    let more = map-range_with_len_more alone 0 c.loop-i.i c.loop-i.i (omega arith) in
    cc (c.in_ok-push-2.ensures.items)
