use Rattle.std.proofs.Common.{◌≡◌, ℕ, ◌∙◌, sym, ap, subst, List, Option, IfSome}
use mathlib.Core.List.{IsPrefix}
use Rattle.ls_chron.proofs.Beginnings.{prefix_trans}
use Rattle.ls_session.specs.declared.session.Turn.{Turn}
use Rattle.ls_told.specs.Seen.{Watched}
use Rattle.ls_told.proofs.Watching.{sees_twice}
use Rattle.ls_shared.specs.Asking.{GoesRound}
use Rattle.ls_shared.specs.Taking.{EndsTurn}
use Rattle.ls_shared.proofs.Turning.{ends_later}
use Rattle.ls_shared.proofs.shared.Shared.steps.Goals as goal

pub returns-in_err-turn-clause-items : goal.returns-in_err-turn-clause-items
returns-in_err-turn-clause-items g c =
    sees_twice c.args.parts.now.watches.items c.loop.parts.watches.items c.step.new.parts.watches.items c.loop.invariant.6 c.step.ensures.items

pub returns-in-Some-2-clause-items : goal.returns-in-Some-2-clause-items
returns-in-Some-2-clause-items g c =
    sees_twice c.args.parts.now.watches.items c.loop.parts.watches.items c.step.new.parts.watches.items c.loop.invariant.6 c.step.ensures.items

pub returns-in-Some-2-clause-turn : goal.returns-in-Some-2-clause-turn
returns-in-Some-2-clause-turn g c =
    let config = g.N.House.deed.config in
    let held = c.args.parts.now.watches.items in
    let number = c.loop.parts.number in
    let mid = c.loop.parts.history.list in
    let new = c.step.new.parts in
    subst
    (λ (n : ℕ). EndsTurn config n c.args.epoch c.args.now held c.args.parts.now.history.list new.history.list new.watches.items c.step.new.into c.in-Some-2.turn)
    c.loop.invariant.2
    (ends_later config number c.args.epoch c.args.now held c.args.parts.now.history.list mid new.history.list new.watches.items c.step.new.into
    c.in-Some-2.turn c.loop.invariant.7
    (subst
    (λ (o : Option Turn). IfSome o (λ t. (h : List Watched) → GoesRound config number mid h c.loop.parts.watches.items c.loop.parts.subs.items c.loop.parts.session
    → EndsTurn config number c.args.epoch c.args.now h mid new.history.list new.watches.items c.step.new.into t))
    c.in-Some-2.is c.in_ok-turn.ensures.turn held c.loop.invariant.8))

pub loop-preserved : goal.loop-preserved
loop-preserved g c = (
  tt,
  tt,
  c.step.ensures.rest.0 ∙ c.loop.invariant.2,
  c.step.ensures.rest.1 ∙ c.loop.invariant.3,
  c.step.ensures.rest.2 ∙ c.loop.invariant.4,
  c.step.ensures.lives,
  sees_twice c.args.parts.now.watches.items c.loop.parts.watches.items c.step.new.parts.watches.items c.loop.invariant.6 c.step.ensures.items,
  prefix_trans c.args.parts.now.history.list c.loop.parts.history.list c.step.new.parts.history.list c.loop.invariant.7 c.step.ensures.begins,
  c.in_ok-turn.ensures.goes c.in-None-2.is c.args.parts.now.watches.items c.loop.invariant.8,
)
