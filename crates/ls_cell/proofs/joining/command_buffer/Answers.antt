use Rattle.ls_cell.proofs.Arrivals.{command_joins, keyed_first}
use Rattle.ls_cell.proofs.joining.command_buffer.Goals as goal

pub new-requires : goal.new-requires
new-requires c = record { kind = (keyed_first c.args.item.now.shape _ c.requires c.in_ok-first.ensures.fits).kind }

pub returns : goal.returns
returns c = λ n.
    command_joins _ _ n _ _ _ _ c.requires c.key.ensures c.in_ok-first.ensures.fits c.in_ok-first.ensures.state
    c.in_ok-buffer.ensures.ok c.in_ok-buffer.ensures.fields c.in_ok-buffer.ensures.stands
