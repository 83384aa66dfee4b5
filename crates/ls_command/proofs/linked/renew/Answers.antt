use Rattle.std.proofs.Common.{sym, ap}
use Rattle.indexmap.specs.Layout.{set_value_at}
use Rattle.ls_command.specs.declared.kept.Kept.{Kept}
use Rattle.ls_command.proofs.Renewing.{value_there}
use Rattle.ls_command.proofs.linked.renew.Goals as goal

pub returns-clause-entries : goal.returns-clause-entries
returns-clause-entries c =
    ap (λ (w : Kept). set_value_at c.args.entries.now.entries c.args.place (record { node = w.node; row = c.args.row; touched = c.args.touched }))
    (sym (value_there c.args.entries.now.entries c.args.place c.index_mut-kept.result.now c.index_mut-kept.ensures.value))

pub returns-clause-touched : goal.returns-clause-touched
returns-clause-touched c =
    ap (λ (w : Kept). w.touched) (sym (value_there c.args.entries.now.entries c.args.place c.index_mut-kept.result.now c.index_mut-kept.ensures.value))
