use Rattle.std.proofs.Common.{◌∙◌, ℕ, ap, arith, get_or, length}
use Rattle.ls_hub.proofs.Ticked.{next_living, next_place, met_out, met_left, not_past}
use Rattle.ls_hub.proofs.hub.Hub.time_out.Goals as goal

pub returns-in_default : goal.returns-in_default
returns-in_default c = λ w ms left clocked.
    absurd (not_past w ms c.args.met left c.args.self.now clocked (omega (arith, ap length c.deref.ensures.value, c.in_default.ensures.lookup.3)))

pub returns-then-is_timed_out : goal.returns-then-is_timed_out
returns-then-is_timed_out c = λ w ms left clocked.
    let x = next_living w ms c.args.met left c.args.self.now clocked in
    let place : ℕ = c.in-Some.place.now in
    met_out w ms c.args.met left c.args.self.now c.end.new.self x place c.is_timed_out.result
    (next_place w ms c.args.met left c.args.self.now c.end.new.self x place
    (c.in-Some.ensures.lookup.1 ∙ ap (λ ns. get_or ns c.args.met place) c.deref.ensures.value))
    c.is_timed_out.ensures.time c.if-is_timed_out.true c.end.ensures.did

pub returns-else-is_timed_out : goal.returns-else-is_timed_out
returns-else-is_timed_out c = λ w ms left clocked.
    let x = next_living w ms c.args.met left c.args.self.now clocked in
    let place : ℕ = c.in-Some.place.now in
    met_left w ms c.args.met left c.args.self.now x place c.is_timed_out.result
    (next_place w ms c.args.met left c.args.self.now c.args.self.now x place
    (c.in-Some.ensures.lookup.1 ∙ ap (λ ns. get_or ns c.args.met place) c.deref.ensures.value))
    c.is_timed_out.ensures.time c.if-is_timed_out.false
