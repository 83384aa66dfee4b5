use Rattle.std.proofs.Common.{◌≤◌, ◌<◌, ℕ, subst, nat_lt}
use Rattle.ls_session.proofs.Tables.{full_is, full_or}
use Rattle.ls_session.proofs.session.Session.is_full.Goals as goal

pub returns-then-len-ge-MOST_SUBSCRIPTIONS : goal.returns-then-len-ge-MOST_SUBSCRIPTIONS
returns-then-len-ge-MOST_SUBSCRIPTIONS c = λ r st.
    full_is 256 _ (nat_lt c.args.free c.args.slots) (subst (λ (n : ℕ). 256 ≤ n) (c.len.ensures r.session.board.lines r.session.board.round st.subs)
    c.if-len-ge-MOST_SUBSCRIPTIONS.true)

pub returns : goal.returns
returns c = λ r st.
    full_or 256 _ (nat_lt c.args.free c.args.slots) (subst (λ (n : ℕ). n < 256) (c.len.ensures r.session.board.lines r.session.board.round st.subs)
    c.if-len-ge-MOST_SUBSCRIPTIONS.false)
