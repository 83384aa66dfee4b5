use Rattle.std.proofs.Common.{All, take}
use Rattle.ls_event.specs.History.{HasFields}
use Rattle.ls_plain.proofs.fitting.all_fit.Given as goal

abbrev pub invariant-loop-i : goal.invariant-loop-i
invariant-loop-i l = All (λ e. HasFields l.fields e.event) (take l.i l.history)
