use Rattle.std.proofs.Common.{subst, sym}
use Rattle.ls_session.specs.declared.session.Session.{Session as Kept}
use Rattle.ls_hub.specs.Turning.{MaySkip}
use Rattle.ls_hub.proofs.Skipping.{skipped, held_on}
use Rattle.ls_hub.proofs.turning.skip_known.Goals as goal
use Rattle.ls_hub.proofs.turning.skip_known.Goals.{then-is_next_settled, else-is_next_settled+else-not-hold_pending}

pub loop-preserved : goal.loop-preserved
loop-preserved c = λ now items epoch before behind r m.
    let x = c.loop.invariant now items epoch before behind r m in
    elim c.if-is_next_settled.branch [
      | then-is_next_settled w ↦ subst (λ (k : Kept). MaySkip now items epoch before behind r k c.args.cells.now) (sym w.session-is)
          (skipped now items epoch before behind r c.loop.session w.skip.new.self c.args.cells.now x
          (c.is_next_settled.ensures w.if-is_next_settled.true items before behind x.rests.on.asking x.rests.on.session x.rests.on.cells)
          (w.skip.ensures x.rests.on.asking x.rests.on.session))
      | else-is_next_settled+else-not-hold_pending w ↦ subst (λ (k : Kept). MaySkip now items epoch before behind r k c.args.cells.now) (sym w.session-is)
          (held_on now items epoch before behind r c.loop.session w.hold_pending.new.session c.args.cells.now x
          (w.hold_pending.ensures.held w.if-not-hold_pending.false items before behind x.rests.on.asking x.rests.on.session x.rests.on.cells))
    ]

pub returns-then-not-hold_pending : goal.returns-then-not-hold_pending
returns-then-not-hold_pending c = λ now items epoch before behind r m.
    subst (λ (k : Kept). MaySkip now items epoch before behind r k c.args.cells.now) (sym (c.hold_pending.ensures.stands c.if-not-hold_pending.true))
    (c.loop.invariant now items epoch before behind r m)
