use Rattle.ls_event.specs.declared.snapshot.Snapshot.TheVariants as state
use Rattle.ls_item.specs.States.{shape_in}
use Rattle.ls_item.proofs.Causes.{few_of}
use Rattle.ls_item.proofs.command.CommandState.add.Goals as goal

pub change-requires-clause-few : goal.change-requires-clause-few
change-requires-clause-few c = few_of (shape_in c.args.self.now) (state.Command c.args.self.now.keys) _ _ c.in-Update.is
    c.requires.admitted
