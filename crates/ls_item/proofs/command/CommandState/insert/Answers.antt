use Rattle.std.proofs.Common.{List, ap, sym, subst, ◌∙◌, Some}
use Rattle.std.specs.List.{insert}
use Rattle.ls_value.specs.Values.{cell_at}
use Rattle.ls_event.specs.Keyed.{text_of_cell}
use Rattle.ls_event.specs.declared.snapshot.KeyedRow.{KeyedRow}
use Rattle.ls_item.specs.States.{IsKeyTable, keyed_shape}
use Rattle.ls_item.proofs.Tables.{Done, insert_done}
use Rattle.ls_item.proofs.command.CommandState.insert.Goals as goal

inserted : (c : goal.In_ok-row)
    → Done (record {
      fields = c.self.inside.fields;
      key = c.self.inside.key;
      command = c.self.inside.command;
      keys =
          c.self.inside.rows.items;
    }) c.args.self.now c.args.cells.now
    (insert c.self.inside.rows.items c.args.at (record
    { key = text_of_cell (cell_at c.args.cells.now c.self.inside.key); row = c.in_ok-row.row }))
    (Some c.in_ok-row.row)
inserted c =
    insert_done _ c.args.self.now c.args.cells.now c.args.at c.in_ok-row.row c.self.view_is c.self.invariant c.requires.cells
    c.requires.change c.requires.few c.in_ok-row.ensures.row

pub invariant_of-self : goal.invariant_of-self
invariant_of-self c =
    subst (IsKeyTable (keyed_shape c.self.inside.fields c.self.inside.key c.self.inside.command)) (sym c.in_err-row.ensures.err)
    c.self.invariant

pub invariant_of-self-2 : goal.invariant_of-self-2
invariant_of-self-2 c =
    subst (IsKeyTable (keyed_shape c.self.inside.fields c.self.inside.key c.self.inside.command)) (sym c.in_ok-row.ensures.ok)
    (inserted c).table

pub returns-clause-ok : goal.returns-clause-ok
returns-clause-ok c =
    ap (λ (ks : List KeyedRow). record {
      fields = c.self.inside.fields;
      key = c.self.inside.key;
      command =
          c.self.inside.command;
      keys = ks;
    }) c.in_ok-row.ensures.ok ∙ (inserted c).view

pub returns-clause-row : goal.returns-clause-row
returns-clause-row c = (inserted c).row

pub returns-clause-fits : goal.returns-clause-fits
returns-clause-fits c = (inserted c).fits
