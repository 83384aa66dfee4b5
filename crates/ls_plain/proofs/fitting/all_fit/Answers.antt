use Rattle.std.proofs.Common.{All, refl, subst, arith}
use Rattle.std.proofs.lemmas.List.{take_all}
use Rattle.ls_event.specs.History.{HasFields}
use Rattle.ls_plain.proofs.More.{all_more}
use Rattle.ls_plain.proofs.fitting.all_fit.Goals as goal

pub loop-i-preserved : goal.loop-i-preserved
loop-i-preserved c =
    all_more (λ e. HasFields c.args.fields e.event) c.args.history.now c.loop-i.i c.index-history-i.result c.loop-i.invariant c.loop-i-test.true
    (c.fits-fit.ensures.0 c.if-fit.true)

pub returns : goal.returns
returns c = (
  λ t. subst (All (λ e. HasFields c.args.fields e.event)) (take_all c.loop-i.i c.args.history.now (omega (arith, c.loop-i-test.false))) c.loop-i.invariant,
  λ all. refl,
)
