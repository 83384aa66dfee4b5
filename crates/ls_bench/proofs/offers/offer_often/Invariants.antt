use Rattle.ls_event.specs.History.{HasFields}
use Rattle.ls_bench.proofs.offers.offer_often.Given as goal

abbrev pub invariant-loop-n : goal.invariant-loop-n
invariant-loop-n g l = HasFields l.pass.shape.fields l.fn.update
