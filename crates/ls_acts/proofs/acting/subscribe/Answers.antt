use Rattle.std.proofs.Common.{sym, ◌∙◌, ap}
use Rattle.std.specs.Prelude.{Err}
use Rattle.ls_request.specs.declared.request.Op.TheVariants as op
use Rattle.ls_acts.specs.Acting.{act_code}
use Rattle.ls_acts.proofs.Operated.{add_done}
use Rattle.ls_acts.proofs.acting.subscribe.Goals as goal

pub returns-in-Err-Code-clause-did : goal.returns-in-Err-Code-clause-did
returns-in-Err-Code-clause-did g c = λ now items before after r st is early range. rw c.in-Err-Code.field-0-is (
  sym (ap (λ n. act_code c.args.config.now.items n r.session (op.Add c.args.add.now)) (sym (c.free-free.ensures items _ st.1))
      ∙ c.in-Err-Code.ensures.refused c.in-Err-Code.code (ap (λ x. Err x) c.in-Err-Code.field-0-is) r st.0),
  (c.in-Err-Code.ensures.same r st.0, st.1),
)

pub returns-in_ok-numbers-in-Ok-clause-did : goal.returns-in_ok-numbers-in-Ok-clause-did
returns-in_ok-numbers-in-Ok-clause-did g c = λ now items before after r st is early range.
    add_done (g.S.ItemSlots.stands c.args.slots.now) (g.S.ItemSlots.stands c.joined.new.slots) c.prepare_add.new.self c.finish_add.new.self
    c.args.add.now c.free-free.result c.in-Ok.plan c.in_ok-numbers-in-Ok.numbers.items c.args.config.now.items items before after r now
    st.1 (c.in-Ok.ensures.same r st.0) is (c.free-free.ensures items _ st.1) (c.in-Ok.ensures.accepted r st.0) c.in-Ok.ensures.plan c.in-Ok.ensures.join
    (λ its a b vs cells order. c.in_ok-numbers-in-Ok.ensures.joined its a b vs cells (rw c.deref.ensures.value order))
    (λ q defs x vs stands planned join. c.finish_add.ensures q defs x vs stands planned (rw c.deref-in-Ok.ensures.value join))
