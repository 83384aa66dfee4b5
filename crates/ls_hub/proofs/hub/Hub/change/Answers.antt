use Rattle.std.proofs.Common.{refl, sym, ap, ◌∙◌, cond, List, ℕ}
use Rattle.ls_hub.specs.Clock.{without_place}
use Rattle.ls_hub.proofs.Hubs.{on_failed}
use Rattle.ls_hub.proofs.Operated.{operated, unchanged}
use Rattle.ls_hub.proofs.hub.Hub.change.Goals as goal

pub returns-in_err-code-clause-err : goal.returns-in_err-code-clause-err
returns-in_err-code-clause-err c = on_failed c.from_residual.result (λ w st.
    unchanged c.args.self.now _ w c.args.place c.index_mut.result.now c.act.new.session st
    (record { low = c.requires.place; at = c.index_mut.ensures.value; config = refl; tick = refl; connections = refl; sessions = refl }) refl
    c.in_err-code.ensures.err.0 c.in_err-code.ensures.err.1)

pub returns-then-is_end-clause-did : goal.returns-then-is_end-clause-did
returns-then-is_end-clause-did c = λ w s st living.
    operated c.args.self.now _ w s c.args.place c.index_mut.result.now c.act.new.session c.args.op.now c.in_ok-code.code st living
    (record { low = c.requires.place; at = c.index_mut.ensures.value; config = refl; tick = refl; connections = refl; sessions = refl })
    (c.leave_out.ensures ∙ sym (ap (λ b. cond {A = List ℕ} b (without_place c.args.place c.args.self.now.living.items) c.args.self.now.living.items)
    (sym c.is_end.ensures ∙ c.if-is_end.true))) c.in_ok-code.ensures.did

pub returns-else-is_end-clause-did : goal.returns-else-is_end-clause-did
returns-else-is_end-clause-did c = λ w s st living.
    operated c.args.self.now _ w s c.args.place c.index_mut.result.now c.act.new.session c.args.op.now c.in_ok-code.code st living
    (record { low = c.requires.place; at = c.index_mut.ensures.value; config = refl; tick = refl; connections = refl; sessions = refl })
    (sym (ap (λ b. cond {A = List ℕ} b (without_place c.args.place c.args.self.now.living.items) c.args.self.now.living.items)
    (sym c.is_end.ensures ∙ c.if-is_end.false))) c.in_ok-code.ensures.did
