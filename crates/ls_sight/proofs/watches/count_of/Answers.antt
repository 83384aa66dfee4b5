use Rattle.std.proofs.Common.{length, slice_set, ◌∙◌, ap, arith}
use Rattle.ls_told.specs.Seen.{Watched}
use Rattle.ls_sight.proofs.Reading.{read_is, set_same, seen_there}
use Rattle.ls_sight.proofs.watches.count_of.Goals as goal

pub returns-clause-same : goal.returns-clause-same
returns-clause-same g c =
    let ws = c.args.watches.now.items in
    let k = c.in-Some.place in
    let w = c.in-Some.ensures.found in
    let is = read_is ws k c.index_mut.result.now w.0 c.index_mut.ensures.value w.1 in
    ap (slice_set ws k) (c.count.ensures.same ∙ is) ∙ set_same ws k w.0 w.1

pub returns-clause-count : goal.returns-clause-count
returns-clause-count g c =
    let ws = c.args.watches.now.items in
    let k = c.in-Some.place in
    let w = c.in-Some.ensures.found in
    let is = read_is ws k c.index_mut.result.now w.0 c.index_mut.ensures.value w.1 in
    let long = ap (λ (x : Watched). length x.list) is in
    let seen = ap (λ l. length l) (seen_there ws k w.0 c.args.item w.1 w.2 w.3) in
    omega (arith, c.count.ensures.count, long, seen)
