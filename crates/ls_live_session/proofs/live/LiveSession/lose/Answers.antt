use Rattle.std.proofs.Common.{◌≡◌, ℕ, Some, false, length, nat_lt, subst}
use Rattle.ls_told.specs.Heard.{heard}
use Rattle.ls_joining.specs.Speaking.{Speaking}
use Rattle.ls_live_session.proofs.live.LiveSession.lose.Goals as goal

pub returns-clause-not_bound : goal.returns-clause-not_bound
returns-clause-not_bound g c is =
    subst (λ (v : Speaking). ((x : ℕ) × ((heard v.number v.lines).unbound ≡ Some x)) × (c.lose.new.self.history.list ≡ v.lines)
    × (nat_lt c.args.epoch (length (heard v.number v.lines).streams) ≡ false))
    c.self.view_is (rw c.deref_mut.ensures.value at (c.lose.ensures.not_bound is))
