use Rattle.std.proofs.Common.{rules, Some, set}
use Rattle.ls_item.proofs.Tables.{Done, update_done}
use Rattle.ls_item.proofs.command.CommandState.update.Goals as goal

done : (c : goal.After-self-1)
    → Done (record {
      fields = c.self.inside.fields;
      key = c.self.inside.key;
      command = c.self.inside.command;
      keys =
          c.self.inside.rows.items;
    }) c.args.self.now c.args.cells.now
    (set c.self.inside.rows.items c.args.at (record { key = c.index_mut.result.now.key; row = c.apply_owned.new.row }))
    (Some c.in_ok-after.after)
done c =
    update_done _ c.args.self.now c.args.cells.now c.in_ok-kept.kept c.args.at c.index_mut.result.now c.index.result.now
    c.apply_owned.new.row c.in_ok-after.after c.self.view_is c.self.invariant c.requires.cells c.requires.change
    (search rules)
    c.index_mut.ensures.value c.apply_owned.ensures (search rules) (search rules)

pub invariant_of-self : goal.invariant_of-self
invariant_of-self c = (done c).table

pub returns-clause-ok : goal.returns-clause-ok
returns-clause-ok c = (done c).view

pub returns-clause-row : goal.returns-clause-row
returns-clause-row c = (done c).row

pub returns-clause-fits : goal.returns-clause-fits
returns-clause-fits c = (done c).fits
