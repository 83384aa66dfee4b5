use Rattle.std.proofs.Common.{rules, subst}
use Rattle.ls_item.specs.Changes.{IsChange}
use Rattle.ls_item.specs.States.{shape_in}
use Rattle.ls_item.proofs.Tables.{exceeds_insert, exceeds_else}
use Rattle.ls_item.proofs.command.CommandState.exceeds.Goals as goal

pub returns-in-Insert : goal.returns-in-Insert
returns-in-Insert c = exceeds_insert _ c.args.self.now c.args.cells.now c.in-Insert._at _ c.self.view_is
    c.self.invariant (subst (IsChange (shape_in c.args.self.now) c.args.self.now.keys c.args.cells.now) c.in-Insert.is
    c.requires) (search rules)

pub returns-in_default : goal.returns-in_default
returns-in_default c = exceeds_else _ c.args.self.now c.args.cells.now c.args.change c.self.view_is c.self.invariant
    c.requires c.in_default.not-Insert
