use Rattle.std.proofs.Common.{◌++◌}
use Rattle.ls_acts.proofs.AddedSlots.{all_leave}
use Rattle.ls_acts.proofs.acting.end.Goals as goal

pub returns : goal.returns
returns g c = λ items before after r st alive.
    let d = c.finish-refs.ensures.alive r st.0 alive in (
      d.1,
      c.leave_all.ensures items (before ++ (r.session.board.round ++ after)) (before ++ after) r.session.board.round st.1
          (rw c.deref.ensures.value d.0) (all_leave r.session.board.round before after),
    )
