use Rattle.ls_cell.proofs.Arrivals.{distinct_joins, recent_first}
use Rattle.ls_cell.proofs.joining.distinct_buffer.Goals as goal

pub rows_owed-rows-requires : goal.rows_owed-rows-requires
rows_owed-rows-requires c = (recent_first c.args.item.now.shape _ c.requires.kind c.in_ok-first.ensures.fits).few

pub new-requires-clause-kind : goal.new-requires-clause-kind
new-requires-clause-kind c = (recent_first c.args.item.now.shape _ c.requires.kind c.in_ok-first.ensures.fits).kind

pub returns : goal.returns
returns c =
    distinct_joins _ _ _ _ _ _ _ c.requires.kind c.in_ok-first.ensures.fits c.in_ok-first.ensures.state
    c.rows_owed-rows.ensures c.in_ok-buffer.ensures.ok c.in_ok-buffer.ensures.stands
