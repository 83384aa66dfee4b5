use Rattle.std.proofs.Common.{sym, ◌∙◌, ap, cond, Option, Some, None, ℕ}
use Rattle.ls_acts.proofs.acting.destroy.Goals as goal

pub returns-then-is_alive : goal.returns-then-is_alive
returns-then-is_alive g c = λ defs now items before after r st is early range.
    let alive = sym (c.is_alive.ensures r st.0) ∙ c.if-is_alive.true in
    (sym (ap (λ b. cond {A = Option ℕ} b None (Some 20)) alive), c.end.ensures items before after r st alive)

pub returns-else-is_alive : goal.returns-else-is_alive
returns-else-is_alive g c = λ defs now items before after r st is early range.
    (sym (ap (λ b. cond {A = Option ℕ} b None (Some 20)) (sym (c.is_alive.ensures r st.0) ∙ c.if-is_alive.false)), st)
