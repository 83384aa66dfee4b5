use Rattle.std.proofs.Common.{arith, rules, ◌∙◌, ◌<◌, ◌≤◌, length}
use Rattle.ls_cell.specs.Numbered.{free_number}
use Rattle.ls_cell.proofs.Changes.{set_free, push_free}
use Rattle.ls_seated.proofs.sides.put.Goals as goal

pub returns-then-index-len : goal.returns-then-index-len
returns-then-index-len g c =
    let low : c.args.index < length c.args.sides.now.items = search rules in
    set_free _ _ _ c.requires.number low

pub returns-else-index-len : goal.returns-else-index-len
returns-else-index-len g c =
    let high : length c.args.sides.now.items ≤ c.args.index = search rules in
    let behind : length c.args.sides.now.items < free_number c.args.sides.now.items =
    omega (arith, c.requires.number, high) in
    c.push_reserved.ensures.items ∙ push_free _ _ behind
