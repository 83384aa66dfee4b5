use Rattle.std.proofs.Common.{◌≡◌, ◌-◌, ◌^◌, min, sum_by, rules, subst, ◌∙◌}
use Rattle.ls_value.specs.Values.{weight_of_cell}
use Rattle.ls_item.specs.Changes.{IsChange}
use Rattle.ls_item.specs.States.{shape_in}
use Rattle.ls_item.proofs.Tables.{weight_else, weight_changed}
use Rattle.ls_item.proofs.command.CommandState.weight_made.Goals as goal

pub returns-in_default : goal.returns-in_default
returns-in_default c =
    let event : c.cells_weight-of_event.result ≡ min (sum_by weight_of_cell c.args.cells.now) (2 ^ 64 - 1) =
    search rules in
    event ∙ weight_else _ c.args.self.now c.args.cells.now c.args.change c.self.view_is c.self.invariant
    c.requires.change c.in_default.not-Update

pub returns-in-Update : goal.returns-in-Update
returns-in-Update c =
    weight_changed _ c.args.self.now c.args.cells.now c.in-Update.at c.index.result.now c.cells_weight-of_event.result
    c.applied_weight_but.result c.max.result c.self.view_is c.self.invariant
    (subst (IsChange (shape_in c.args.self.now) c.args.self.now.keys c.args.cells.now) c.in-Update.is c.requires.change)
    c.index.ensures (search rules) (search rules) c.max.ensures
