use Rattle.std.proofs.Common.{refl, ap, List, []}
use Rattle.ls_event.specs.declared.item.ItemDef.{ItemDef}
use Rattle.ls_record.specs.Records.{all_live}
use Rattle.ls_hub.proofs.Hubs.{on_failed}
use Rattle.ls_hub.proofs.Publishing.{with_cells}
use Rattle.ls_hub.proofs.hub.Hub.declare.Goals as goal

pub returns-in_err-declare-clause-err : goal.returns-in_err-declare-clause-err
returns-in_err-declare-clause-err c = on_failed c.from_residual.result (λ w st.
    with_cells c.args.self.now _ w (record { config = refl; tick = refl; connections = refl; living = refl; sessions = refl }) st
    (c.in_err-declare.ensures.err w.items (all_live w.sessions) st.cells))

pub returns-in-Err-clause-err : goal.returns-in-Err-clause-err
returns-in-Err-clause-err c = λ w st.
    with_cells c.args.self.now _ w (record {
      config = ap (λ (defs : List ItemDef). record c.args.self.now.config { items = defs }) c.in-Err.ensures.err;
      tick = refl;
      connections = refl;
      living = refl;
      sessions = refl;
    }) st
    (c.take_back.ensures w.items (record { definition = c.args.definition; history = [] }) (all_live w.sessions)
    (c.in_ok-declare.ensures.ok w.items (all_live w.sessions) st.cells) st.cells.within)
