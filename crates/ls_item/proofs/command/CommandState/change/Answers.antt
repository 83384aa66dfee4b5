use Rattle.std.proofs.Common.{List, None, subst, ap, ◌∙◌}
use Rattle.std.specs.List.{remove}
use Rattle.ls_event.specs.declared.snapshot.KeyedRow.{KeyedRow}
use Rattle.ls_item.specs.declared.command.Change.TheVariants as change
use Rattle.ls_item.specs.Changes.{IsChange}
use Rattle.ls_item.specs.States.{shape_in}
use Rattle.ls_item.proofs.Tables.{Done, nothing_done, nothing_row, remove_done}
use Rattle.ls_item.proofs.command.CommandState.change.Goals as goal

nothing : (c : goal.In-Nothing) → IsChange (shape_in c.args.self.now) c.args.self.now.keys c.args.cells.now
    change.Nothing
nothing c = subst (IsChange (shape_in c.args.self.now) c.args.self.now.keys c.args.cells.now) c.in-Nothing.is
    c.requires.change

removed : (c : goal.After-drop-removed-in-Remove)
    → Done (record {
      fields = c.self.inside.fields;
      key = c.self.inside.key;
      command = c.self.inside.command;
      keys =
          c.self.inside.rows.items;
    }) c.args.self.now c.args.cells.now (remove c.self.inside.rows.items c.in-Remove.at)
    None
removed c = remove_done _ c.args.self.now c.args.cells.now c.in-Remove.at c.self.view_is c.self.invariant
    (subst (IsChange (shape_in c.args.self.now) c.args.self.now.keys c.args.cells.now) c.in-Remove.is c.requires.change)

pub invariant_of-self : goal.invariant_of-self
invariant_of-self c = rw c.remove-removed.ensures.items (removed c).table

pub returns-in-Nothing-clause-ok : goal.returns-in-Nothing-clause-ok
returns-in-Nothing-clause-ok c = nothing_done c.args.self.now c.args.cells.now (nothing c)

pub returns-in-Nothing-clause-row : goal.returns-in-Nothing-clause-row
returns-in-Nothing-clause-row c = nothing_row c.args.self.now c.args.cells.now (nothing c)

pub returns-in-Remove-clause-ok : goal.returns-in-Remove-clause-ok
returns-in-Remove-clause-ok c =
    ap (λ (ks : List KeyedRow). record {
      fields = c.self.inside.fields;
      key = c.self.inside.key;
      command =
          c.self.inside.command;
      keys = ks;
    }) c.remove-removed.ensures.items ∙ (removed c).view

pub returns-in-Remove-clause-row : goal.returns-in-Remove-clause-row
returns-in-Remove-clause-row c = (removed c).row
