use Rattle.std.proofs.Common.{OnOk, OnErr, subst}
use Rattle.ls_session.specs.declared.session.Session.{Session as Kept}
use Rattle.ls_hub.specs.Turning.{TakesAnswer, KeepsQuestion}
use Rattle.ls_hub.proofs.turning.reply.Goals as goal

pub returns-then-hold_asked-clause-ok : goal.returns-then-hold_asked-clause-ok
returns-then-hold_asked-clause-ok c = λ now items epoch before behind r q h ask.
    c.pass_known.ensures now items epoch before behind r (c.hold_asked.ensures.held c.if-hold_asked.true now items epoch before behind r q h ask)

pub returns-clause-ok : goal.returns-clause-ok
returns-clause-ok c =
    subst (λ (k : Kept). OnOk c.answer.result (TakesAnswer c.args.ask k c.args.cells.now c.answer.new.session c.answer.new.cells))
    (c.hold_asked.ensures.stands c.if-hold_asked.false) c.answer.ensures.ok

pub returns-clause-err : goal.returns-clause-err
returns-clause-err c =
    subst (λ (k : Kept). OnErr c.answer.result (KeepsQuestion k c.args.cells.now c.answer.new.session c.answer.new.cells))
    (c.hold_asked.ensures.stands c.if-hold_asked.false) c.answer.ensures.err
