use Rattle.std.proofs.Common.{sym, ap, ◌++◌}
use Rattle.std.specs.Prelude.{Err}
use Rattle.ls_record.specs.Records.{without}
use Rattle.ls_session.specs.Record.{slots_of}
use Rattle.ls_acts.proofs.AddedSlots.{sub_leaves}
use Rattle.ls_acts.proofs.acting.unsubscribe.Goals as goal

pub returns-in-Err-Code-clause-did : goal.returns-in-Err-Code-clause-did
returns-in-Err-Code-clause-did g c = λ defs now items before after r st is early range. (
  sym (c.in-Err-Code.ensures.refused c.in-Err-Code.code (ap (λ x. Err x) c.in-Err-Code.field-0-is) r st.0),
  (c.in-Err-Code.ensures.err r st.0, st.1),
)

pub returns-in-Ok-clause-did : goal.returns-in-Ok-clause-did
returns-in-Ok-clause-did g c = λ defs now items before after r st is early range.
    let d = c.in-Ok.ensures.accepted r st.0 in (
      sym d.0,
      (
        d.2,
        c.leave_all.ensures items (before ++ (r.session.board.round ++ after)) (before ++ (without c.args.sub r.session.board.round ++ after))
            (slots_of c.args.sub r.session.board.round) st.1 (rw c.deref.ensures.value d.1) (sub_leaves c.args.sub r.session.board.round before after),
      ),
    )
