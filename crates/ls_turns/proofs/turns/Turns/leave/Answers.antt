use Rattle.std.proofs.Common.{sym, ap, ◌∙◌, ◌≡◌, arith, subst, ℕ}
use Rattle.ls_turns.specs.Round.{Round, left_one, left_below}
use Rattle.ls_turns.specs.Moves.{Left, IsMoved}
use Rattle.ls_turns.proofs.Rounds.{left_more, left_nothing, left_all}
use Rattle.ls_turns.proofs.Moving.{leave_moves}
use Rattle.ls_turns.proofs.turns.Turns.leave.Goals as goal

pub loop-place-init : goal.loop-place-init
loop-place-init c = sym (left_nothing c.args.sub c.args.self.now)

pub loop-place-preserved : goal.loop-place-preserved
loop-place-preserved c =
    c.leave_one.ensures ∙ ap (left_one c.args.sub c.loop-place.place) c.loop-place.invariant
    ∙ left_more c.args.sub c.loop-place.place c.args.self.now

pub returns-clause-seats : goal.returns-clause-seats
returns-clause-seats c =
    let all : c.loop-place.place ≡ c.places-places.result = omega arith in
    c.leave_one-2.ensures
    ∙ ap (left_one c.args.sub c.places-places.result) (c.loop-place.invariant ∙ ap (λ (n : ℕ). left_below c.args.sub n c.args.self.now) all)
    ∙ left_all c.args.sub c.places-places.result c.args.self.now c.places-places.ensures

pub returns-clause-moved : goal.returns-clause-moved
returns-clause-moved c =
    subst (λ (q : Round). IsMoved (Left c.args.sub) c.args.self.now q) (sym (returns-clause-seats c)) (leave_moves c.args.sub c.args.self.now)
