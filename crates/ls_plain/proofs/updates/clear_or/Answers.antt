use Rattle.std.proofs.Common.{◌∙◌, sym}
use Rattle.ls_event.proofs.UpdatesBetween.{last_clear_is}
use Rattle.ls_plain.proofs.updates.clear_or.Goals as goal

pub returns-in-Some-clause-within : goal.returns-in-Some-clause-within
returns-in-Some-clause-within c =
    (last_clear_is c.args.history.now c.args.from c.args.to c.in-Some.clear c.requires.order c.requires.within
    (sym c.last_clear.ensures ∙ c.in-Some.is)).reached
