use Rattle.std.proofs.Common.{arith, rules, ◌∙◌, ◌<◌, ◌≤◌, length}
use Rattle.ls_cell.specs.Numbered.{free_number}
use Rattle.ls_cell.proofs.Changes.{set_free, push_free}
use Rattle.ls_cell.proofs.slots.put.Goals as goal

pub returns-then-index-len-clause-ok : goal.returns-then-index-len-clause-ok
returns-then-index-len-clause-ok c =
    let low : c.args.index < length c.args.slots.now.items = search rules in
    set_free _ _ _ c.requires low

pub returns-in_ok-push-clause-ok : goal.returns-in_ok-push-clause-ok
returns-in_ok-push-clause-ok c =
    let high : length c.args.slots.now.items ≤ c.args.index = search rules in
    let behind : length c.args.slots.now.items < free_number c.args.slots.now.items =
    omega (arith, c.requires, high) in
    c.in_ok-push.ensures.items ∙ push_free _ _ behind
